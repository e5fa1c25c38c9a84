-- A test of the numbers below n, as `(0..n).any(|i| ..)` makes it. Assumes nothing.
use Prim.Native.Nat.{ℕ, zero, suc, ◌+◌, ◌<◌}
use mathlib.Core.Path.{◌≡◌, refl, sym, ap, ap₂, ◌∙◌}
use mathlib.Core.Bool.{Bool, true, false, cond, ◌||◌}
use mathlib.Core.List.{List}
use native.Mathlib.Decide.{dec_lt}
use native.Mathlib.Omega.{arith}
use denote.Param.Members.{Mut, Called}
use borrow.Author.Tests.{lt-ltb, le-ltb}
use lib.Dec.{ltb}
use Rattle.std.specs.Iterator.{YieldsThen}
use Rattle.std.specs.List.{FoldsTo, list_any, range_with_len}
use Rattle.std.specs.Option.{MatchOption}
use Rattle.std.specs.declared.option.Option.{Option}
use Rattle.std.specs.declared.ops.Range.{Range}
use Rattle.std.proofs.iter.Yields.{nat_range_steps}
use Rattle.std.proofs.lemmas.Iterator.{YieldsList-from_range}
use Rattle.std.proofs.lemmas.Iterator.Search.{any_from_yields_List}
use Rattle.model.specs.Tests.{least, some?}

below_suc : (m n : ℕ) → ltb (suc m) (suc n) ≡ ltb m n
below_suc m n = pick (dec_lt m n)
  where
    pick : Dec (m < n) → ltb (suc m) (suc n) ≡ ltb m n
    pick (yes h) = lt-ltb (suc m) (suc n) (omega arith) ∙ sym (lt-ltb m n h)
    pick (no h) = le-ltb (suc m) (suc n) (omega arith) ∙ sym (le-ltb m n (omega arith))

some_next : (n : ℕ) (test : ℕ → Bool) → some? (suc n) test ≡ (test 0 || some? n (λ i. test (suc i)))
unfolding least
some_next n test = go (test 0)
  where
    later : ℕ
    later = least n (λ i. test (suc i))

    go : (b : Bool) → ltb (cond b 0 (suc later)) (suc n) ≡ (b || ltb later n)
    go true = lt-ltb 0 (suc n) (omega arith)
    go false = below_suc later n

list_some : (a n : ℕ) (items test : ℕ → Bool) → ((i : ℕ) → items (a + i) ≡ test i) → list_any items (range_with_len a n) ≡ some? n test
unfolding least
list_some a zero items test e = refl
list_some a (suc n) items test e =
    ap₂ ◌||◌
    (ap items (omega arith) ∙ e 0)
    (list_some (a + 1) n items (λ i. test (suc i)) (λ i. ap items (omega arith) ∙ e (suc i)))
    ∙ sym (some_next n test)

module _ {F : Type 0} {g : Mut F (ℕ × Unit {0}) Bool} where
  -- r is what `any` returned; the last argument is one call of the closure
  pub some_in_range : (n : ℕ) (test : ℕ → Bool) (u : Range ℕ) (f : F) (r : Bool)
      → (xs : List ℕ) × (o : Option ℕ) × (j : F) × YieldsThen nat_range_steps (record { start = 0; end = n }) xs o u × FoldsTo (λ p x q. Called g p (x, tt) false q) f xs j
      × MatchOption o (r ≡ false) (λ x. (r ≡ true) × ((h : F) × Called g j (x, tt) true h))
      → ((x : ℕ) (b : Bool) (q : F) → Called g f (x, tt) b q → (q ≡ f) × (b ≡ test x)) → r ≡ some? n test
  some_in_range n test u f r ran each =
      any_from_yields_List test u f r ran (YieldsList-from_range 0 n n refl (omega arith)) each
      ∙ list_some 0 n test test (λ i. ap test (omega arith))
