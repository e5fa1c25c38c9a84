-- The cells of a circuit that can only be skipped, and what is joined from a grid. Assumes nothing: these are definitions.
use Rattle.std.specs.Prelude.{◌≡◌, ℕ, ◌+◌, ◌<◌, ◌≤◌, true, List, fold, get_or}
use Rattle.std.specs.Int.Bits.{bit_or}
use Rattle.num_mask.specs.Bits.{bit}

-- the cells from a up to r can only be skipped: each may be, and none is free while one is wanted; where no more is wanted, those are all
pub record SkippedTo (shut a cycle demand have r : ℕ) : Type 0 where
  pub started : a ≤ r
  pub within : r ≤ cycle
  pub may : a < r → demand + r ≤ cycle + have
  pub none : (i : ℕ) → a ≤ i → i < r → have < demand → bit shut i ≡ true
  pub full : demand ≤ have → r ≡ cycle

-- the entries of a row at each of a list, joined bit by bit with x
abbrev pub gathered : (row : List ℕ) (x : ℕ) → List ℕ → ℕ
gathered row x os = fold (λ y a. bit_or y (get_or row a 0)) x os
