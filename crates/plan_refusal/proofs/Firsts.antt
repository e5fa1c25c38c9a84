-- Laws behind each loop over f 0, f 1, .. that stops at the first that is found: r is what was found at i. Assumes nothing.
use Prim.Native.Nat.{ℕ, ◌+◌, ◌≤◌, ◌<◌}
use mathlib.Core.Path.{◌≡◌, sym, ap, ◌∙◌}
use mathlib.Core.Option.{Option, none, some}
use native.Mathlib.Decide.{dec_lt}
use native.Mathlib.Omega.{arith}
use Rattle.std.specs.Result.{IsErrAnd}
use Rattle.std.specs.declared.result.Result.TheVariants.{Ok, Err}
use Rattle.model.specs.Tests.{first}
use Rattle.model.specs.declared.Answer.{Answer}
use Rattle.model.proofs.Tests.{first-none, first_at}
use Rattle.plan_refusal.specs.Found.{Tested, found}

pub found-none : (r : Tested) → r ≡ Ok tt → found r ≡ none
found-none r e = ap found e

pub found-some : (r : Tested) (a : Answer) → r ≡ Err a → found r ≡ some a
found-some r a e = ap found e

-- what `?` hands on
pub handed_on : (r : Tested) (a : Answer) → IsErrAnd r (λ b. b ≡ a) → found r ≡ some a
handed_on (Ok u) a h = absurd h
handed_on (Err b) a h = ap some h

module _ (f : ℕ → Option Answer) where
  -- none of those below i is there
  pub record Clear (i : ℕ) : Type 0 where
    pub below : (k : ℕ) → k < i → f k ≡ none

  pub clear_none : Clear 0
  clear_none = record { below = λ k h. absurd (omega arith) }

  pub clear_all : (n i : ℕ) → n ≤ i → Clear i → none ≡ first n f
  clear_all n i h c = sym ((first-none n f).1 (λ k l. c.below k (omega arith)))

  module _ (i : ℕ) (c : Clear i) (r : Tested) (e : found r ≡ f i) where
    pub clear_more : r ≡ Ok tt → Clear (i + 1)
    clear_more h = record { below = λ k l. pick k l (dec_lt k i) }
      where
        pick : (k : ℕ) → k < i + 1 → Dec (k < i) → f k ≡ none
        pick k l (yes a) = c.below k a
        pick k l (no a) = let s : k ≡ i = omega arith in rw s (sym e ∙ found-none r h)

    pub clear_found : (n : ℕ) → i < n → (a : Answer) → r ≡ Err a → some a ≡ first n f
    clear_found n l a h = sym (first_at n f i a l c.below (sym e ∙ found-some r a h))
