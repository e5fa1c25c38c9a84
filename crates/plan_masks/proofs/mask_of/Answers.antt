-- `plan_masks::mask_of` meets its contract: the offsets passed are in the mask. Assumes nothing.
use mathlib.Core.Path.{sym, ap₂, ◌∙◌}
use Prim.Native.Nat.{ℕ}
use mathlib.Core.List.{List, [], ◌∷◌, ◌++◌}
use native.Mathlib.Omega.{arith}
use Rattle.std.proofs.lemmas.List.{take_more, take_all}
use Rattle.num_mask.specs.Bits.{Above}
use Rattle.num_mask.proofs.Laws.{offsets-zero}
use Rattle.plan_masks.proofs.Taking.{offset_small, above_here}
use Rattle.plan_masks.proofs.mask_of.Goals as goal

pub loop-offset-init : goal.loop-offset-init
loop-offset-init c = record { fits = omega arith; taken = offsets-zero }

pub with-mask-requires : goal.with-mask-requires
with-mask-requires c = rw c.from.ensures (offset_small _ _ c.requires c.loop-offset-test.true)

pub loop-offset-preserved : goal.loop-offset-preserved
loop-offset-preserved c =
    let above : Above c.loop-offset.mask c.from.result =
    rw c.from.ensures (above_here _ _ c.requires c.loop-offset-test.true _ c.loop-offset.invariant.fits c.loop-offset.invariant.taken) in
    record {
      fits = omega arith;
      taken = (c.with-mask.ensures.above above).parts
          ∙ ap₂ (λ (xs : List ℕ) (x : ℕ). xs ++ (x ∷ [])) c.loop-offset.invariant.taken c.from.ensures
          ∙ sym (take_more _ _ 0 c.loop-offset-test.true);
    }

pub returns : goal.returns
returns c = c.loop-offset.invariant.taken ∙ take_all _ _ c.loop-offset-test.false
