-- `plan_masks::fill` meets its contract: the masks of the circuits before c stand. Assumes nothing.
use native.Mathlib.Omega.{arith}
use Rattle.plan_masks.proofs.Taking.{rising_here, masks_more}
use Rattle.plan_masks.proofs.fill.Goals as goal

pub mask_of-requires : goal.mask_of-requires
mask_of-requires c = rw c.deref-start-items.ensures.0 (rising_here _ _ c.loop-c.c _ _ c.requires (rw c.deref-start-items.ensures.0 at c.loop-c-test.true) (rw c.deref-start-items.ensures.0 at c.word-count.ensures) (omega arith))

pub loop-c-preserved : goal.loop-c-preserved
loop-c-preserved c = masks_more _ _ c.loop-c.c _ _ c.requires (rw c.deref-start-items.ensures.0 at c.loop-c-test.true) (rw c.deref-start-items.ensures.0 at c.word-count.ensures) (omega arith) _ _ (omega arith) c.loop-c.invariant (rw c.deref-start-items.ensures.0 at c.mask_of.ensures) (omega (arith, c.mask_of.type_inv))
