-- The ones at the low end of a word of bits. Assumes nothing.
use mathlib.Core.Path.{◌≡◌, refl, sym, ap, ◌∙◌}
use mathlib.Core.Bool.{true}
use Prim.Native.Nat.{ℕ, zero, suc, ◌+◌, ◌-◌, ◌*◌, ◌/◌, ◌%◌, ◌^◌, ◌≤◌, ◌<◌}
use native.Mathlib.Nat.{pow-suc, not-suc-le-zero, lt_of_le_of_lt, div-le_self}
use native.Mathlib.Omega.{arith}
use lib.Pow.{shr-shr}
use lib.Count.{count_trailing_zeros, under}
use borrow.Author.Tests.{eq-eqb}
use Rattle.num_mask.specs.Bits.{bit}

-- ---- the ones at the low end are as many as the zeros of the word with all bits turned

pub low_ones : (k x i : ℕ) → x < 2 ^ k → i < count_trailing_zeros k (2 ^ k - 1 - x) → x / 2 ^ i % 2 ≡ 1
unfolding count_trailing_zeros
low_ones zero x i h l = absurd (not-suc-le-zero l)
low_ones (suc k) x i h l = go ((2 ^ suc k - 1 - x) % 2) refl i l (λ j q. low_ones k (x / 2) j (omega (arith, pow-suc 2 k)) q)
  where
    twice : 2 ^ suc k ≡ 2 ^ k * 2
    twice = pow-suc 2 k

    t : ℕ
    t = count_trailing_zeros k ((2 ^ suc k - 1 - x) / 2)

    go : (d : ℕ) → (2 ^ suc k - 1 - x) % 2 ≡ d → (j : ℕ) → j < under d t
        → ((j : ℕ) → j < count_trailing_zeros k (2 ^ k - 1 - x / 2) → x / 2 / 2 ^ j % 2 ≡ 1) → x / 2 ^ j % 2 ≡ 1
    go zero e zero m halves = omega (arith, twice)
    go zero e (suc j) m halves =
        let half : (2 ^ suc k - 1 - x) / 2 ≡ 2 ^ k - 1 - x / 2 = omega (arith, twice) in
        let inside : j < count_trailing_zeros k (2 ^ k - 1 - x / 2) = rw (← half) (omega arith) in
        ap (λ (n : ℕ). n % 2) (ap (λ (n : ℕ). x / 2 ^ n) (omega arith) ∙ sym (shr-shr x 1 j)) ∙ halves j inside
    go (suc d) e j m halves = absurd (not-suc-le-zero m)

-- those of a word from bit a on
pub ones_from : (k x a i : ℕ) → x < 2 ^ k → a ≤ i → i < a + count_trailing_zeros k (2 ^ k - 1 - x / 2 ^ a) → bit x i ≡ true
unfolding bit
ones_from k x a i h l m =
    let e : x / 2 ^ i ≡ x / 2 ^ a / 2 ^ (i - a) = ap (λ (n : ℕ). x / 2 ^ n) (omega arith) ∙ sym (shr-shr x a (i - a)) in
    eq-eqb (x / 2 ^ i % 2) 1 (ap (λ (n : ℕ). n % 2) e ∙ low_ones k (x / 2 ^ a) (i - a) (lt_of_le_of_lt (div-le_self x (2 ^ a)) h) (omega arith))
