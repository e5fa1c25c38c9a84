-- The resources that circuits use, as sets of bits. Assumes nothing: these are definitions.
use Rattle.std.specs.Prelude.{ℕ, ◌+◌, ◌-◌, ◌/◌, ◌%◌, ◌<◌, ◌≡◌, Bool, true, eqb, List, All, length, get_or, zip}
use Rattle.std.specs.Int.Bits.{bit_and}
use Rattle.std.specs.List.{list_all}
use Rattle.arrayvec.specs.ArrayVec.{ArrayVec}
use Rattle.model.specs.Sizes.{resources_most}
use Rattle.model.specs.declared.Use.{Use}
use Rattle.num_mask.specs.Bits.{bit}
use Rattle.plan.specs.declared.Circuit.{Circuit}
use Rattle.plan.specs.Plan.{circuit_in}
use Rattle.clash_sets.specs.declared.Resources.{Resources}

-- a set has a bit for each resource, in words
abbrev pub word_bits : ℕ
word_bits = 32

abbrev pub set_words : ℕ
set_words = (resources_most + word_bits - 1) / word_bits

-- the word where w has its bit: one that is no resource shares the bit of one
abbrev pub word_at : ℕ → ℕ
word_at w = w / word_bits % set_words

-- resource w is in the set
pub record InSet (words : List ℕ) (w : ℕ) : Type 0 where
  pub has : bit (get_or words (word_at w) 0) (w % word_bits) ≡ true

-- the set has all that it had
pub record Grown (old words : List ℕ) : Type 0 where
  pub kept : (w : ℕ) → InSet old w → InSet words w

-- the resources of all these uses are in the set
pub record Collected (l : List Use) (words : List ℕ) : Type 0 where
  pub all : All (λ u. InSet words u.what) l

-- the sets of the first n circuits, each with all that its circuit uses
pub record SetsOf (p : ArrayVec Circuit) (sets : List Resources) (n : ℕ) : Type 0 where
  pub long : length sets ≡ n
  pub at : (c : ℕ) (d : Resources) → c < n → Collected (circuit_in p c).uses (get_or sets c d).words

-- two sets have no bit in common
abbrev pub apart? : List ℕ → List ℕ → Bool
apart? xs ys = list_all (λ p. eqb (bit_and p.0 p.1) 0) (zip xs ys)
