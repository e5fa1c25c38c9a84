-- What stands in the places of a plan that are not in use. Assumes nothing: these are definitions.
use Rattle.std.specs.Prelude.{[]}
use Rattle.std.proofs.Common.{lit≤}
use Rattle.std.proofs.lemmas.List.Elements.{All-nil}
use Rattle.plan.specs.declared.Circuit.{Circuit}
use Rattle.plan.specs.Ports.{SendFits}

-- a circuit that asks for nothing
abbrev pub blank_circuit : Circuit
blank_circuit = record {
  cycle = record { slots = 1; fits = record { low = lit≤ tt; high = lit≤ tt } };
  demand = 0;
  uses = record { items = [] };
  sends = record { items = [] };
  demand_fits = lit≤ tt;
  sends_fit = All-nil SendFits;
}
