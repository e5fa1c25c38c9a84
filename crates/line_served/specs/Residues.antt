-- The remainders of the offsets of a mask. Assumes nothing: these are definitions.
use Rattle.std.specs.Prelude.{ℕ, ◌%◌, ◌<◌, ◌≡◌, true}
use Rattle.model.specs.Sizes.{cycle_most}
use Rattle.num_mask.specs.Bits.{bit}

-- x has the offsets of a mask modulo g
pub record Folds (mask g x : ℕ) : Type 0 where
  pub has_all : (a : ℕ) → a < cycle_most → bit mask a ≡ true → bit x (a % g) ≡ true
