-- Laws of the remainders of the offsets of a mask. Assumes nothing.
use Rattle.std.proofs.Common.{◌≡◌, ℕ, suc, ◌%◌, true, List, [], ◌∷◌, ◌++◌, arith}
use Rattle.std.specs.List.{All}
use Rattle.std.proofs.lemmas.List.Elements.{All-nil, All-cons, All-append}
use mathlib.Core.List.Memᴰ
use native.Mathlib.Nat.{mod-eq_of_lt}
use mathlib.Core.Logic.{◌⊎◌, inl, inr}
use Rattle.model.specs.Sizes.{cycle_most}
use Rattle.model.specs.Tests.{◌∈◌}
use Rattle.model.proofs.Tests.{eq→T}
use Rattle.num_mask.specs.Bits.{bit, offsets}
use Rattle.num_mask.proofs.Laws.{offsets_in}
use Rattle.line_served.specs.Residues.{Folds}

-- ---- what holds of all of a list

pub All-more : (P : ℕ → Type 0) (xs : List ℕ) (m : ℕ) → All P xs → P m → All P (xs ++ m ∷ [])
All-more P xs m a h = All-append P xs (m ∷ []) a (All-cons P m [] h (All-nil P))

of_each : (P : ℕ → Type 0) (xs : List ℕ) → All P xs → {x : ℕ} → x ∈ xs → P x
of_each P [] a i = absurd (Memᴰ.not-nil i)
of_each P (y ∷ ys) a {x} i = pick (Memᴰ.cases_cons i) (λ k. of_each P ys (λ j d h. a (suc j) d (omega arith)) k)
  where
    pick : (x ≡ y) ⊎ (x ∈ ys) → (x ∈ ys → P x) → P x
    pick (inl e) more = rw e (a 0 0 (omega arith))
    pick (inr k) more = more k

-- ---- remainders

-- below the longest cycle each is its own remainder
pub folds_own : (mask : ℕ) → Folds mask cycle_most mask
folds_own mask = record { has_all = λ a l t. rw (mod-eq_of_lt l) t }

-- found has the remainders of those of xs
abbrev pub Folded : (g found : ℕ) → List ℕ → Type 0
Folded g found xs = All (λ a. bit found (a % g) ≡ true) xs

pub folded_all : (mask g found : ℕ) → Folded g found (offsets mask) → Folds mask g found
folded_all mask g found f = record { has_all = λ a l t. of_each (λ a. bit found (a % g) ≡ true) (offsets mask) f ((offsets_in mask a).1 (l, eq→T t)) }
