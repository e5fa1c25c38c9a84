-- Laws behind the loops of the table check: over the offsets of a mask, and over hops where all offsets are told at once. Assumes nothing.
use Rattle.std.proofs.Common.{◌≡◌, ℕ, suc, ◌<◌, List, [], ◌∷◌, take, length, get_or, refl, arith}
use Rattle.std.specs.List.{All}
use mathlib.Core.List.Memᴰ
use mathlib.Core.Option.{Option, none, some}
use Rattle.model.specs.Tests.{◌else◌, ◌∈◌}
use Rattle.model.specs.declared.Answer.{Answer}
use Rattle.model.proofs.Tests.{T→eq, first-none}
use Rattle.num_mask.specs.Bits.{offsets}
use Rattle.num_mask.proofs.Laws.{offsets_in}
use Rattle.plan.specs.Plan.{CircuitPlan}
use Rattle.line_served.specs.Serving.{AllServed}
use Rattle.line_check.specs.Checks.{first_of, no_send, offset_fault, circuit_fault}

-- ---- the first that is there, where none of ys is

module _ (f : ℕ → Option Answer) where
  pub first_of-none : (xs : List ℕ) → All (λ a. f a ≡ none) xs → none ≡ first_of xs f
  unfolding first_of ◌else◌
  first_of-none [] a = refl
  first_of-none (x ∷ xs) a = rw (a 0 0 (omega arith)) (first_of-none xs (λ k d h. a (suc k) d (omega arith)))

  pub first_of-found : (xs ys : List ℕ) (a : ℕ) (r : Answer) → ys ≡ take (length ys) xs → length ys < length xs → a ≡ get_or xs (length ys) a → All (λ a. f a ≡ none) ys → f a ≡ some r
      → some r ≡ first_of xs f
  unfolding first_of ◌else◌
  first_of-found [] ys a r e l s clear here = absurd (omega arith)
  first_of-found (x ∷ xs) [] a r e l s clear here = rw (← s, here) refl
  first_of-found (x ∷ xs) (y ∷ ys) a r e l s clear here =
      let same : x ≡ y = cc e in
      let rest : ys ≡ take (length ys) xs = cc e in
      rw (same, clear 0 0 (omega arith)) (first_of-found xs ys a r rest (omega arith) s (λ k d h. clear (suc k) d (omega arith)) here)

-- ---- all offsets of a mask at once, hop by hop

in_none : (l : List ℕ) (f : ℕ → Option Answer) → ((a : ℕ) → a ∈ l → f a ≡ none) → first_of l f ≡ none
unfolding first_of ◌else◌
in_none [] f h = refl
in_none (x ∷ l) f h = rw (h x (Memᴰ.head refl)) (in_none l f (λ a i. h a (Memᴰ.tail i)))

pub served_all : (t : List ℕ) (lines : ℕ) (x : CircuitPlan) (mask c : ℕ) → All (λ s. AllServed t lines x.cycle s mask) x.sends → circuit_fault x mask t lines c ≡ none
unfolding circuit_fault offset_fault
served_all t lines x mask c s =
    in_none (offsets mask) (offset_fault x t lines c)
    (λ a i. (first-none (length x.sends) _).1 (λ k l. (s k no_send l).each a (T→eq _ ((offsets_in mask a).0 i).1) c k))
