-- `plan_masks::mask_of` meets its contract: the offsets passed are in the mask. Assumes nothing.
use Prim.Native.Nat.{◌^◌, ◌<◌}
use mathlib.Core.Path.{◌≡◌}
use lib.ListN.{take}
use Rattle.model.specs.Sizes.{cycle_most}
use Rattle.num_mask.specs.Bits.{offsets}
use Rattle.plan_masks.proofs.mask_of.Given as goal

abbrev pub invariant-loop-offset : goal.invariant-loop-offset
invariant-loop-offset l = record { fits : l.mask < 2 ^ cycle_most; taken : offsets l.mask ≡ take l.offset-index l.rising }
