-- Laws of lists by number and of lists one behind the other. Assumes nothing.
use Prim.Native.Nat.{ℕ, zero, suc, ◌+◌, ◌≤◌, ◌<◌}
use mathlib.Core.Path.{◌≡◌, refl, sym, ap, ◌∙◌}
use mathlib.Core.List.{List, [], ◌∷◌, ◌++◌, map, append_assoc}
use native.Mathlib.Numerals.{add-one}
use native.Mathlib.Omega.{arith}
use lib.ListN.{length, get_or, drop, length-append, drop_of_length-le}
use lib.Seq.{drop-cons}
use Rattle.model.specs.Tests.{up_to, joined, sum}
use Rattle.model.proofs.Tests.{length-up_to, get_or-up_to}

-- ---- by number

module _ {A : Type 0} where
  pub map_by_number : {B : Type 0} (g : A → B) (l : List A) (d : A) → map g l ≡ up_to (length l) (λ i. g (get_or l i d))
  unfolding up_to
  map_by_number g [] d = refl
  map_by_number g (x ∷ l) d = ap (λ r. g x ∷ r) (map_by_number g l d)

pub sum_more : (n : ℕ) (f : ℕ → ℕ) → sum (up_to (n + 1) f) ≡ sum (up_to n f) + f n
unfolding up_to sum
sum_more n f = rw (add-one n) (go n f)
  where
    go : (n : ℕ) (f : ℕ → ℕ) → sum (up_to (suc n) f) ≡ sum (up_to n f) + f n
    go zero f = omega arith
    go (suc n) f = omega (arith, go n (λ i. f (suc i)))

-- ---- one behind the other

module _ {A : Type 0} where
  pub joined_append : (ls ms : List (List A)) → joined (ls ++ ms) ≡ joined ls ++ joined ms
  unfolding joined
  joined_append [] ms = refl
  joined_append (l ∷ ls) ms = ap (λ r. l ++ r) (joined_append ls ms) ∙ sym (append_assoc l (joined ls) (joined ms))

  -- what is left from list j on
  abbrev pub left_of : ℕ → (ℕ → List A) → ℕ → List A
  left_of n f j = joined (drop j (up_to n f))

  pub left_first : (n : ℕ) (f : ℕ → List A) (j : ℕ) → j < n → left_of n f j ≡ f j ++ left_of n f (j + 1)
  unfolding joined
  left_first n f j h =
      let k : j < length (up_to n f) = omega (arith, length-up_to n f) in
      rw (add-one j) (ap joined (drop-cons (up_to n f) j [] k) ∙ ap (λ l. l ++ left_of n f (suc j)) (get_or-up_to n f j [] h))

  pub left_none : (n : ℕ) (f : ℕ → List A) (j : ℕ) → n ≤ j → left_of n f j ≡ []
  unfolding joined
  left_none n f j h = ap joined (drop_of_length-le (up_to n f) {i = j} (omega (arith, length-up_to n f)))

  -- how long they are together
  pub joined_length : (n : ℕ) (f : ℕ → List A) → length (joined (up_to n f)) ≡ sum (up_to n (λ i. length (f i)))
  unfolding up_to joined sum
  joined_length zero f = refl
  joined_length (suc n) f = length-append (f 0) (joined (up_to n (λ i. f (suc i)))) ∙ ap (λ k. length (f 0) + k) (joined_length n (λ i. f (suc i)))

-- each list by itself
module _ {A B : Type 0} (g : A → List B) where
  map_append : (l m : List A) → map g (l ++ m) ≡ map g l ++ map g m
  map_append [] m = refl
  map_append (x ∷ l) m = ap (λ r. g x ∷ r) (map_append l m)

  pub joined-map : (ls : List (List A)) → joined (map g (joined ls)) ≡ joined (map (λ l. joined (map g l)) ls)
  unfolding joined
  joined-map [] = refl
  joined-map (l ∷ ls) =
      ap joined (map_append l (joined ls)) ∙ joined_append (map g l) (map g (joined ls)) ∙ ap (λ r. joined (map g l) ++ r) (joined-map ls)
