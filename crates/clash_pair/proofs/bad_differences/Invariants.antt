-- `clash_pair::bad_differences` meets its contract. The loop's invariant: the differences of the uses passed are marked. Assumes nothing.
use lib.ListN.{take}
use Rattle.clash_pair.proofs.Marking.{MarksAll}
use Rattle.clash_pair.proofs.bad_differences.Given as goal

abbrev pub invariant-loop-u : goal.invariant-loop-u
invariant-loop-u l = MarksAll (take l.u-index l.u-items) l.e.uses.items l.g.slots l.acc
