-- Sets of resources: that words without a common bit share no resource. Assumes nothing.
use Prim.Native.Nat.{ℕ, zero, suc, ◌+◌, ◌/◌, ◌%◌, ◌^◌, ◌<◌}
use mathlib.Core.Path.{◌≡◌, sym, ap, ◌∙◌}
use mathlib.Core.Bool.{true, false}
use mathlib.Core.List.{List, [], ◌∷◌, ◌++◌}
use native.Mathlib.Nat.{zero-div}
use native.Mathlib.Omega.{arith}
use native.Mathlib.Decide.{dec_lt}
use borrow.Author.Tests.{eqb-true}
use lib.ListN.{get_or, length-append}
use Rattle.std.proofs.lemmas.List.{get_or_append_left, get_or_push}
use Rattle.std.proofs.lemmas.Bool.{and_parts}
use lib.Bits.{bit_and, and_shr, and_step}
use Rattle.num_mask.specs.Bits.{bit}
use Rattle.num_mask.proofs.Laws.{bit-none}
use Rattle.arrayvec.specs.ArrayVec.{ArrayVec}
use Rattle.plan.specs.declared.Circuit.{Circuit}
use Rattle.plan.specs.Plan.{circuits_in, circuit_in}
use Rattle.plan.proofs.Laws.{circuit_at}
use Rattle.clash_sets.specs.declared.Resources.{Resources}
use Rattle.clash_sets.specs.Sets.{word_bits, word_at, InSet, Collected, SetsOf, apart?}

-- ---- circuit by circuit

module _ {p : ArrayVec Circuit} where
  pub sets_more : {sets : List Resources} {i : ℕ} (x : Circuit) (r : Resources) → SetsOf p sets i → i < circuits_in p → x ≡ get_or p.items i x → Collected x.uses.items r.words
      → SetsOf p (sets ++ r ∷ []) (i + 1)
  sets_more {sets} {i} x r done h is last = record { long = rw length-append (omega (arith, done.long)); at = λ c d k. pick c d k (dec_lt c i) }
    where
      pick : (c : ℕ) (d : Resources) → c < i + 1 → Dec (c < i) → Collected (circuit_in p c).uses (get_or (sets ++ r ∷ []) c d).words
      pick c d k (yes l) = rw (get_or_append_left sets (r ∷ []) d c (omega (arith, done.long))) (done.at c d l)
      pick c d k (no l) = let s : c ≡ i = omega arith in
          rw (get_or_push sets r d c (done.long ∙ sym s), s, ← circuit_at p.items i x h is) last

-- ---- two sets

-- words that have no common bit
no_common : (x y i : ℕ) → bit_and x y ≡ 0 → bit x i ≡ true → bit y i ≡ true → ⊥
unfolding bit
no_common x y i z hx hy =
    let u : x / 2 ^ i % 2 ≡ 1 = eqb-true _ _ hx in
    let v : y / 2 ^ i % 2 ≡ 1 = eqb-true _ _ hy in
    let none : bit_and x y / 2 ^ i ≡ 0 = ap (λ n. n / 2 ^ i) z ∙ zero-div (2 ^ i) in
    omega (arith, none, and_shr x y i, and_step (x / 2 ^ i) (y / 2 ^ i))

-- sets that are apart share no resource
pub apart_none : {xs ys : List ℕ} {w : ℕ} → apart? xs ys ≡ true → InSet xs w → InSet ys w → ⊥
apart_none {xs} {ys} {w} e a b = go xs ys (word_at w) e a.has b.has
  where
    outside : bit 0 (w % word_bits) ≡ true → ⊥
    outside h = let n : bit 0 (w % word_bits) ≡ false = bit-none (w % word_bits) in cc

    go : (xs ys : List ℕ) (k : ℕ) → apart? xs ys ≡ true → bit (get_or xs k 0) (w % word_bits) ≡ true → bit (get_or ys k 0) (w % word_bits) ≡ true → ⊥
    go [] ys k e a b = outside a
    go (x ∷ xs) [] k e a b = outside b
    go (x ∷ xs) (y ∷ ys) zero e a b = no_common x y (w % word_bits) (eqb-true _ _ (and_parts _ _ e).0) a b
    go (x ∷ xs) (y ∷ ys) (suc k) e a b = go xs ys k (and_parts _ _ e).1 a b
