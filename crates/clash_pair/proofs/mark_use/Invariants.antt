-- `clash_pair::mark_use` meets its contract. The loop's invariant: the differences of the uses passed are marked. Assumes nothing.
use lib.ListN.{take}
use Rattle.clash_pair.specs.Differences.{MarksUse}
use Rattle.clash_pair.proofs.mark_use.Given as goal

abbrev pub invariant-loop-v : goal.invariant-loop-v
invariant-loop-v l = MarksUse l.u (take l.v-index l.v-items) l.g.slots l.from l.acc
