-- `clash_sets::of_all` meets its contract. The loop's invariant: the circuits passed have their sets. Assumes nothing.
use Rattle.clash_sets.specs.Sets.{SetsOf}
use Rattle.clash_sets.proofs.of_all.Given as goal

abbrev pub invariant-loop-circuit : goal.invariant-loop-circuit
invariant-loop-circuit l = SetsOf l.plan l.sets.items l.circuit-index
