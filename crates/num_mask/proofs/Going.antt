-- Going through the offsets of a mask: which come, in a `for` and in a chain. Assumes nothing.
use Rattle.std.proofs.Common.{◌≡◌, ℕ, zero, suc, ◌<◌, Bool, ◌||◌, List, [], ◌∷◌, length, get_or, refl, ap, arith}
use Rattle.std.specs.List.{list_any}
use Rattle.std.specs.Iterator.{YieldsFirst}
use Rattle.std.proofs.lemmas.Iterator.{YieldsList}
use Rattle.std.proofs.lemmas.Iterator.Consumers.{YieldsList-from_first}
use Rattle.model.specs.Sizes.{cycle_most}
use Rattle.model.specs.Tests.{any, ◌∈◌}
use Rattle.num_mask.specs.Bits.{offsets}
use Rattle.num_mask.specs.declared.Rising.{Rising}
use Rattle.num_mask.proofs.Laws.{offsets_in}
use mathlib.Core.List.Memᴰ

-- the chain proof of `offsets(m)`, for the library's laws of iterators
pub road : {s : Rising} (m : ℕ) → s.left ≡ m → YieldsList (YieldsFirst (λ (s : Rising). offsets s.left)) (λ x. x) s (offsets m)
road m e = YieldsList-from_first (λ x. x) (λ (s : Rising). offsets s.left) (offsets m) (ap offsets e)

-- the library's `any` and the model's
pub list_any-is : {A : Type 0} (p : A → Bool) (xs : List A) → list_any p xs ≡ any p xs
unfolding any
list_any-is p [] = refl
list_any-is p (x ∷ xs) = ap (λ b. p x || b) (list_any-is p xs)

-- each that comes is an offset
at_in : (xs : List ℕ) (k d : ℕ) → k < length xs → get_or xs k d ∈ xs
at_in [] k d h = absurd (omega arith)
at_in (x ∷ xs) zero d h = Memᴰ.head refl
at_in (x ∷ xs) (suc k) d h = Memᴰ.tail (at_in xs k d (omega arith))

pub offset_low : (m k d : ℕ) → k < length (offsets m) → get_or (offsets m) k d < cycle_most
offset_low m k d h = ((offsets_in m (get_or (offsets m) k d)).0 (at_in (offsets m) k d h)).0

pub first_low : (m : ℕ) {a : ℕ} {more : List ℕ} → offsets m ≡ a ∷ more → a < cycle_most
first_low m e = rw e at (offset_low m 0 0 (omega (arith, ap length e)))
