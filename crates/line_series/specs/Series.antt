-- What a series has met, and what is told of it. Assumes nothing: these are definitions.
use Rattle.std.specs.Prelude.{ℕ, ◌+◌, List}
use Rattle.std.proofs.Math.Option.{Option}
use Rattle.model.specs.declared.Answer.{Answer}
use Rattle.plan.specs.Ports.{port_of}
use Rattle.line_chains.specs.Chains.{lines_at}
use Rattle.line_series.specs.Judging.{met_of, send_fault}
use Rattle.line_series.specs.declared.Met.{Met}
use Rattle.line_series.specs.declared.Series.{Series}

abbrev pub series_met : (t : List ℕ) (lines : ℕ) → Series → Met
series_met t lines s = met_of t s.cycle.slots (s.offset + s.send.after) (lines_at t lines (port_of s.send.router s.send.inp))

abbrev pub series_fault : (t : List ℕ) (lines : ℕ) → Series → Option Answer
series_fault t lines s = send_fault t lines s.cycle.slots s.send s.circuit s.offset s.hop
