-- Which circuits hold a resource in a slot. Assumes nothing: these are definitions.
use Rattle.std.specs.Prelude.{ℕ, ◌*◌, ◌≤◌, ◌≡◌, Bool, List, eqb}
use Rattle.model.specs.Sizes.{cycle_most}
use Rattle.model.specs.Tests.{◌and◌, any}
use Rattle.model.specs.declared.Use.{Use}
use Rattle.num_mask.specs.Bits.{bit}
use Rattle.num_cyclic.specs.Ahead.{ahead}

-- one of the uses l is a use of w whose offset in slot t is in the mask m
unfoldable pub held_by : (cycle m t w : ℕ) → List Use → Bool
held_by cycle m t w l = any (λ u. eqb u.what w and bit m (ahead cycle t u.after)) l

-- r is how many slots there are before two circuits of these cycles come round together for certain
pub record SlotsOf (c d r : ℕ) : Type 0 where
  pub is : r ≡ c * d
  pub few : r ≤ cycle_most * cycle_most
