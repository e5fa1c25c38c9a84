-- The laws that a copied list owes beside its type: its places are those in use, and blanks behind them. Assumes nothing.
use Rattle.std.specs.Prelude.{◌≡◌, ℕ, ◌-◌, ◌≤◌, List, ◌++◌, length, take, drop, replicate}
use Rattle.std.proofs.Common.{arith, length-take-le, take-append-drop}

module _ {T : Type 0} {cap n : ℕ} (xs : List T) (le : n ≤ cap) (long : length xs ≡ cap) where
  pub used : length (take n xs) ≡ n
  used = length-take-le n xs (omega (arith, le, long))

  pub filled : (blank : T) → drop n xs ≡ replicate (cap - n) blank → take n xs ++ replicate (cap - length (take n xs)) blank ≡ xs
  filled blank rest = rw (used, ← rest) (take-append-drop n xs)
