-- `clash_pair::mark_use` meets its contract. The loop's invariant: the differences of the uses passed are marked. Assumes nothing.
use Rattle.clash_pair.proofs.Marking.{uses_none, uses_other, uses_same}
use Rattle.clash_pair.proofs.mark_use.Goals as goal

pub loop-v-init : goal.loop-v-init
loop-v-init c = uses_none

pub loop-v-preserved-then-v-u : goal.loop-v-preserved-then-v-u
loop-v-preserved-then-v-u c = uses_other _ _ _ _ c.loop-v-test.true c.loop-v.invariant c.if-v-u.true

pub loop-v-preserved : goal.loop-v-preserved
loop-v-preserved c = uses_same _ _ _ _ c.loop-v-test.true c.loop-v.invariant (rw (← c.from.ensures, ← c.from-in-loop-v.ensures) c.difference-d.ensures.is) c.if-v-u.false c.with-acc.ensures.marked
