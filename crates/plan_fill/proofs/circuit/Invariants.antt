-- `plan_fill::circuit` meets its contract. The loop's invariant: the uses and the sends of the hops before j stand. Assumes nothing.
use Rattle.file_parts.specs.Records.{asked, recorded}
use Rattle.plan_fill.proofs.Loading.{Hops}
use Rattle.plan_fill.proofs.circuit.Given as goal

abbrev pub invariant-loop-j : goal.invariant-loop-j
invariant-loop-j l = Hops (asked l.source.request).network (recorded l.source) l.j l.uses.items l.sends.items l.inp l.late
