-- `List::clear` meets its contract. The loop's invariant: the places passed are blank. Assumes nothing.
use Rattle.std.proofs.Common.{arith}
use Rattle.plan_list.proofs.Places.{clear_more, clear_done}
use Rattle.plan_list.proofs.List.clear.Goals as goal

pub loop-place-preserved : goal.loop-place-preserved
loop-place-preserved g c = rw c.blank.ensures (clear_more c.loop-place.invariant c.loop-place-test.true)

pub invariant_of-self : goal.invariant_of-self
invariant_of-self g c = (omega arith, c.loop-place.invariant.long, clear_done c.loop-place.invariant (omega arith))
