-- Laws of masks and lists of offsets: bits, how many there are, the first, one more, which are in, and that they rise. Assumes nothing.
use mathlib.Core.Path.{◌≡◌, refl, sym, ap, ◌∙◌, subst}
use mathlib.Core.Bool.{Bool, true, false, cond, ◌||◌, or-true}
use mathlib.Core.Logic.{◌↔◌, ◌⊎◌, inl, inr}
use mathlib.Core.List.Memᴰ
use mathlib.Core.List.{List, [], ◌∷◌, ◌++◌}
use Prim.Native.Nat.{ℕ, zero, suc, ◌+◌, ◌-◌, ◌*◌, ◌/◌, ◌%◌, ◌^◌, ◌≤◌, ◌<◌, max}
use native.Mathlib.Nat.{not-suc-le-zero, zero-lt-suc, le_of_suc-le-suc, le_refl, add-zero, zero-add, mod-lt, pow-suc, zero-div}
use native.Mathlib.Numerals.{add-one}
use native.Mathlib.Omega.{arith}
use lib.ListN.{length}
use lib.Dec.{T, eqb, eqb-suc-suc}
use borrow.Author.Tests.{eq-eqb, ne_eqb}
use lib.Arith.{lt-one, digits_mod}
use lib.Pow.{shr_lt, shr-shr, shl_exact, pow_pos}
use lib.Bits.{bit_or, block_half, block_odd, or_shr, or_step, or_shifted_r}
use lib.Count.{ones, ones_step, count_trailing_zeros, under}
use Rattle.model.proofs.Choosing.{wider}
use Rattle.model.specs.Sizes.{cycle_most}
use Rattle.model.specs.Tests.{◌∈◌}
use Rattle.model.specs.Search.{Rises}
use Rattle.num_mask.specs.Bits.{bit, places, offsets, Above, More, Marked, Lowest}

half_lt : {n : ℕ} (k : ℕ) → n < 2 ^ suc k → n / 2 < 2 ^ k
half_lt {n} k h = shr_lt k 1 (subst (λ (x : ℕ). n < 2 ^ x) (sym (add-one k)) h)

-- ---- bits

pub bit-none : (i : ℕ) → bit 0 i ≡ false
unfolding bit
bit-none i = rw (zero-div (2 ^ i)) refl

or_bits : (p q : ℕ) → p < 2 → q < 2 → eqb (max p q) 1 ≡ (eqb p 1 || eqb q 1)
or_bits zero zero hp hq = refl
or_bits zero (suc zero) hp hq = refl
or_bits zero (suc (suc q)) hp hq = absurd (omega arith)
or_bits (suc zero) zero hp hq = refl
or_bits (suc zero) (suc zero) hp hq = refl
or_bits (suc zero) (suc (suc q)) hp hq = absurd (omega arith)
or_bits (suc (suc p)) q hp hq = absurd (omega arith)

or_low : (u v : ℕ) → bit_or u v % 2 ≡ max (u % 2) (v % 2)
or_low u v = ap (λ (x : ℕ). x % 2) (or_step u v) ∙ digits_mod (bit_or (u / 2) (v / 2)) (omega arith)

pub bit-or : (x y i : ℕ) → bit (bit_or x y) i ≡ (bit x i || bit y i)
unfolding bit
bit-or x y i =
    ap (λ (n : ℕ). eqb (n % 2) 1) (or_shr x y i)
    ∙ ap (λ (n : ℕ). eqb n 1) (or_low (x / 2 ^ i) (y / 2 ^ i))
    ∙ or_bits (x / 2 ^ i % 2) (y / 2 ^ i % 2) (omega arith) (omega arith)

bit-zero : (m : ℕ) → bit m 0 ≡ eqb (m % 2) 1
unfolding bit
bit-zero m = let e : m / 2 ^ 0 % 2 ≡ m % 2 = omega arith in ap (λ (n : ℕ). eqb n 1) e

bit-suc : (m i : ℕ) → bit m (suc i) ≡ bit (m / 2) i
unfolding bit
bit-suc m i = ap (λ (n : ℕ). eqb (n % 2) 1) (ap (λ (e : ℕ). m / 2 ^ e) (omega arith) ∙ sym (shr-shr m 1 i))

-- one bit alone
pub bit_one : (i d : ℕ) → bit (2 ^ i) d ≡ eqb d i
bit_one zero zero = bit-zero 1
bit_one zero (suc d) = bit-suc 1 d ∙ bit-none d ∙ sym (ne_eqb (suc d) 0 (λ e. omega arith))
bit_one (suc i) zero =
    bit-zero (2 ^ suc i) ∙ (let e : 2 ^ suc i % 2 ≡ 0 = omega arith in ap (λ (n : ℕ). eqb n 1) e) ∙ sym (ne_eqb 0 (suc i) (λ e. omega arith))
bit_one (suc i) (suc d) =
    bit-suc (2 ^ suc i) d ∙ (let e : 2 ^ suc i / 2 ≡ 2 ^ i = omega arith in ap (λ (n : ℕ). bit n d) e) ∙ bit_one i d ∙ sym (eqb-suc-suc d i)

-- ---- the places of no bit, and of one bit more, above those of m

pub places-zero : (k s : ℕ) → places k s 0 ≡ []
unfolding places
places-zero zero s = refl
places-zero (suc k) s = places-zero k (suc s)

pick_more : (b : Bool) (s : ℕ) (xs ys t : List ℕ) → xs ≡ ys ++ t → cond b (s ∷ xs) xs ≡ cond b (s ∷ ys) ys ++ t
pick_more true s xs ys t e = ap (λ (l : List ℕ). s ∷ l) e
pick_more false s xs ys t e = e

pub places_more : (a k s m : ℕ) → a < k → m < 2 ^ a → places k s (1 * 2 ^ a + m) ≡ places k s m ++ ((s + a) ∷ [])
unfolding places
places_more a zero s m l h = absurd (not-suc-le-zero l)
places_more zero (suc k) s m l h = rw (lt-one h, places-zero k (suc s), add-zero s)
places_more (suc a) (suc k) s m l h =
    rw (block_odd 1 a m, block_half 1 a m)
    (pick_more (eqb (m % 2) 1) s (places k (suc s) (1 * 2 ^ a + m / 2)) (places k (suc s) (m / 2)) ((s + suc a) ∷ [])
    (places_more a k (suc s) (m / 2) (le_of_suc-le-suc l) (half_lt a h) ∙ ap (λ (n : ℕ). places k (suc s) (m / 2) ++ (n ∷ [])) (omega arith)))

-- ---- how many there are

count_more : (d : ℕ) (s : ℕ) (xs : List ℕ) → d < 2 → length (cond (eqb d 1) (s ∷ xs) xs) ≡ d + length xs
count_more zero s xs h = omega arith
count_more (suc zero) s xs h = omega arith
count_more (suc (suc d)) s xs h = absurd (omega arith)

pub places-length : (k s m : ℕ) → m < 2 ^ k → length (places k s m) ≡ ones m
unfolding places ones
places-length zero s m h = rw (lt-one h) refl
places-length (suc k) s m h =
    count_more (m % 2) s (places k (suc s) (m / 2)) (mod-lt m (zero-lt-suc 1))
    ∙ ap (λ (x : ℕ). m % 2 + x) (places-length k (suc s) (m / 2) (half_lt k h))
    ∙ sym (ones_step m)

places_few : (k s m : ℕ) → length (places k s m) ≤ k
unfolding places
places_few zero s m = omega arith
places_few (suc k) s m = go (eqb (m % 2) 1) (places_few k (suc s) (m / 2))
  where
    go : (b : Bool) → length (places k (suc s) (m / 2)) ≤ k → length (cond b (s ∷ places k (suc s) (m / 2)) (places k (suc s) (m / 2))) ≤ suc k
    go true h = omega arith
    go false h = omega arith

-- ---- the first: the lowest set bit of m, at t, and then the places of m without it

pub record FirstPlace (k s m t : ℕ) : Type 0 where
  pub inside : t < k
  pub least : 2 ^ t ≤ m
  pub parts : places k s m ≡ (s + t) ∷ places k s (m - 2 ^ t)

first_odd : (k s m t : ℕ) → t ≡ 0 → m % 2 ≡ 1 → FirstPlace (suc k) s m t
unfolding places
first_odd k s m t z e =
    let low : (m - 1) % 2 ≡ 0 = omega arith in
    let high : (m - 1) / 2 ≡ m / 2 = omega arith in
    rw z (record { inside = zero-lt-suc k; least = omega arith; parts = rw (e, low, high, add-zero s) })

first_even : (k s m t u : ℕ) → t ≡ suc u → m % 2 ≡ 0 → FirstPlace k (suc s) (m / 2) u → FirstPlace (suc k) s m t
unfolding places
first_even k s m t u z e f =
    let twice : 2 ^ suc u ≡ 2 ^ u * 2 = pow-suc 2 u in
    let fit : 2 ^ u ≤ m / 2 = f.least in
    let low : (m - 2 ^ suc u) % 2 ≡ 0 = omega arith in
    let high : (m - 2 ^ suc u) / 2 ≡ m / 2 - 2 ^ u = omega arith in
    rw z
    (record {
      inside = omega (arith, f.inside);
      least = omega arith;
      parts = rw (e, low, high) (f.parts ∙ ap (λ (n : ℕ). n ∷ places k (suc s) (m / 2 - 2 ^ u)) (omega arith));
    })

pub places-first : (k s m : ℕ) → m < 2 ^ k → 0 < m → FirstPlace k s m (count_trailing_zeros k m)
unfolding count_trailing_zeros
places-first zero s m h p = absurd (omega (arith, lt-one h))
places-first (suc k) s m h p = go (m % 2) refl (λ ev. places-first k (suc s) (m / 2) (half_lt k h) (omega arith))
  where
    t : ℕ
    t = count_trailing_zeros k (m / 2)

    go : (d : ℕ) → m % 2 ≡ d → (m % 2 ≡ 0 → FirstPlace k (suc s) (m / 2) t) → FirstPlace (suc k) s m (under (m % 2) t)
    go zero e rest = first_even k s m (under (m % 2) t) t (ap (λ (d : ℕ). under d t) e) e (rest e)
    go (suc zero) e rest = first_odd k s m (under (m % 2) t) (ap (λ (d : ℕ). under d t) e) e
    go (suc (suc d)) e rest = absurd (omega arith)

-- ---- which are in

pick_in : (b : Bool) {s i : ℕ} {xs : List ℕ} → i ∈ cond b (s ∷ xs) xs → ((i ≡ s) × T b) ⊎ (i ∈ xs)
pick_in true m = both (Memᴰ.cases_cons m)
  where
    both : {s i : ℕ} {xs : List ℕ} → (i ≡ s) ⊎ (i ∈ xs) → ((i ≡ s) × T true) ⊎ (i ∈ xs)
    both (inl e) = inl (e, tt)
    both (inr m) = inr m
pick_in false m = inr m

in_pick : (b : Bool) (s : ℕ) {i : ℕ} {xs : List ℕ} → i ∈ xs → i ∈ cond b (s ∷ xs) xs
in_pick true s m = Memᴰ.tail m
in_pick false s m = m

pub places→ : (k s m i : ℕ) → i ∈ places k s m → (j : ℕ) × (i ≡ s + j) × (j < k) × T (bit m j)
unfolding places
places→ zero s m i h = absurd (Memᴰ.not-nil h)
places→ (suc k) s m i h = go (pick_in (eqb (m % 2) 1) h) (places→ k (suc s) (m / 2) i)
  where
    go : ((i ≡ s) × T (eqb (m % 2) 1)) ⊎ (i ∈ places k (suc s) (m / 2))
        → (i ∈ places k (suc s) (m / 2) → (j : ℕ) × (i ≡ suc s + j) × (j < k) × T (bit (m / 2) j))
        → (j : ℕ) × (i ≡ s + j) × (j < suc k) × T (bit m j)
    go (inl e) below = (0, omega (arith, e.0), zero-lt-suc k, rw (bit-zero m) e.1)
    go (inr h) below = let r = below h in (suc r.0, omega (arith, r.1), omega (arith, r.2), rw (bit-suc m r.0) r.3)

pub →places : (k s m j : ℕ) → j < k → T (bit m j) → (s + j) ∈ places k s m
unfolding places
→places zero s m j h t = absurd (not-suc-le-zero h)
→places (suc k) s m zero h t = here (eqb (m % 2) 1) (places k (suc s) (m / 2)) (rw (bit-zero m) at t)
  where
    here : (b : Bool) (xs : List ℕ) → T b → (s + zero) ∈ cond b (s ∷ xs) xs
    here true xs t = Memᴰ.head (add-zero s)
    here false xs t = absurd t
→places (suc k) s m (suc j) h t =
    in_pick (eqb (m % 2) 1) s
    (subst (λ (i : ℕ). i ∈ places k (suc s) (m / 2)) (omega arith) (→places k (suc s) (m / 2) j (le_of_suc-le-suc h) (rw (bit-suc m j) at t)))

-- ---- they rise: below s + d where only d bits are looked at, or where m has no more

pick_rises : (b : Bool) (s e : ℕ) (xs : List ℕ) → s < e → Rises (suc s) e xs → Rises s e (cond b (s ∷ xs) xs)
pick_rises true s e xs h r = (le_refl s, h, r)
pick_rises false s e xs h r = wider s (suc s) e xs (omega arith) r

pub places_rises : (k d s m : ℕ) → (k ≤ d) ⊎ (m < 2 ^ d) → Rises s (s + d) (places k s m)
unfolding places
places_rises zero d s m h = tt
places_rises (suc k) zero s m (inl h) = absurd (not-suc-le-zero h)
places_rises (suc k) zero s m (inr h) = rw (lt-one h, places-zero k (suc s)) tt
places_rises (suc k) (suc d) s m h =
    pick_rises (eqb (m % 2) 1) s (s + suc d) (places k (suc s) (m / 2)) (omega arith)
    (subst (λ (e : ℕ). Rises (suc s) e (places k (suc s) (m / 2))) (omega arith) (places_rises k d (suc s) (m / 2) (fewer h)))
  where
    fewer : (suc k ≤ suc d) ⊎ (m < 2 ^ suc d) → (k ≤ d) ⊎ (m / 2 < 2 ^ d)
    fewer (inl h) = inl (le_of_suc-le-suc h)
    fewer (inr h) = inr (half_lt d h)

-- ---- a bit as the code makes it, in a word of w bits

pub shifted : (a w : ℕ) → a < w → (1 * 2 ^ a) % 2 ^ w ≡ 1 * 2 ^ a
shifted a w l = shl_exact 1 a w (omega arith) (omega arith)

or_sum : (a w m : ℕ) → a < w → m < 2 ^ a → bit_or m ((1 * 2 ^ a) % 2 ^ w) ≡ 1 * 2 ^ a + m
or_sum a w m l h = ap (λ (x : ℕ). bit_or m x) (shifted a w l) ∙ or_shifted_r 1 a m h

-- ---- the offsets of a mask

pub offsets-zero : offsets 0 ≡ []
unfolding offsets
offsets-zero = places-zero cycle_most 0

pub offsets-length : (m : ℕ) → m < 2 ^ cycle_most → length (offsets m) ≡ ones m
unfolding offsets
offsets-length m h = places-length cycle_most 0 m h

pub offsets_few : (m : ℕ) → length (offsets m) ≤ cycle_most
unfolding offsets
offsets_few m = places_few cycle_most 0 m

-- i is an offset of m where its bit is set
pub offsets_in : (m i : ℕ) → (i ∈ offsets m) ↔ ((i < cycle_most) × T (bit m i))
unfolding offsets
offsets_in m i = (
  λ h. let r = places→ cycle_most 0 m i h in let e : i ≡ r.0 = r.1 ∙ zero-add r.0 in (omega (arith, r.2), rw e r.3),
  λ h. rw zero-add at (→places cycle_most 0 m i h.0 h.1),
)

pub offsets_below : (m d : ℕ) → m < 2 ^ d → Rises 0 d (offsets m)
unfolding offsets
offsets_below m d h = rw zero-add at (places_rises cycle_most d 0 m (inr h))

-- one offset more, above the others, as the code adds it to a word of cycle_most bits
pub offsets_more : {m i : ℕ} → Above m i → More m i (bit_or m ((1 * 2 ^ i) % 2 ^ cycle_most))
unfolding offsets
offsets_more {m} {i} a =
    let e = or_sum i cycle_most m a.inside a.low in
    let twice : 2 ^ suc i ≡ 2 ^ i * 2 = pow-suc 2 i in
    let low = a.low in
    record {
      parts = rw e (places_more i cycle_most 0 m a.inside low ∙ ap (λ (x : ℕ). places cycle_most 0 m ++ (x ∷ [])) (zero-add i));
      low = rw (e, add-one i) (omega arith);
    }

-- the first
pub offsets-first : (m : ℕ) → m < 2 ^ cycle_most → 0 < m → Lowest m (count_trailing_zeros cycle_most m)
unfolding offsets
offsets-first m h p =
    let t = count_trailing_zeros cycle_most m in
    let f : FirstPlace cycle_most 0 m t = places-first cycle_most 0 m h p in
    record {
      inside = f.inside;
      least = f.least;
      parts = f.parts ∙ ap (λ (n : ℕ). n ∷ places cycle_most 0 (m - 2 ^ t)) (zero-add t);
    }

pub offsets_marked : (m i : ℕ) → i < cycle_most → Marked m i (bit_or m ((1 * 2 ^ i) % 2 ^ cycle_most))
offsets_marked m i h = record {
  bits = λ d.
      ap (λ x. bit (bit_or m x) d) (shifted i cycle_most h ∙ omega arith)
      ∙ bit-or m (2 ^ i) d ∙ ap (λ b. bit m d || b) (bit_one i d);
}

-- ---- one bit more

pub marked_kept : {m i r : ℕ} → Marked m i r → (d : ℕ) → bit m d ≡ true → bit r d ≡ true
marked_kept {i = i} k d e = k.bits d ∙ ap (λ z. z || eqb d i) e

pub marked_new : {m i r : ℕ} → Marked m i r → bit r i ≡ true
marked_new {m} {i} k = k.bits i ∙ ap (λ z. bit m i || z) (eq-eqb i i refl) ∙ or-true (bit m i)

-- ---- one bit less

pub lowest_less : {rest t more : ℕ} → Lowest rest t → more ≡ rest - 2 ^ t → more < rest
lowest_less {t = t} l e = omega (arith, l.least, pow_pos t)

-- ---- a mask by its offsets

places_below : (k s d m : ℕ) → m < 2 ^ k → ((i : ℕ) → i ∈ places k s m → i < s + d) → m < 2 ^ d
unfolding places
places_below zero s d m h below = rw (lt-one h) (pow_pos d)
places_below (suc k) s d m h below = go d (m % 2) refl (λ d t. places_below k (suc s) d (m / 2) (half_lt k h) t) below
  where
    more : ℕ → Type 0
    more t = (i : ℕ) → i ∈ places k (suc s) (m / 2) → i < t

    go : (d b : ℕ) → m % 2 ≡ b → ((d : ℕ) → more (suc s + d) → m / 2 < 2 ^ d) → ((i : ℕ) → i ∈ cond (eqb (m % 2) 1) (s ∷ places k (suc s) (m / 2)) (places k (suc s) (m / 2)) → i < s + d) → m < 2 ^ d
    go zero zero e half below =
        let low : m / 2 < 2 ^ 0 = half 0 (λ i x. omega (arith, below i (in_pick (eqb (m % 2) 1) s x))) in
        omega arith
    go zero (suc b) e half below =
        let one : m % 2 ≡ 1 = omega (arith, mod-lt m (zero-lt-suc 1)) in
        let low : s < s + 0 = below s (rw one (Memᴰ.head refl)) in
        absurd (omega arith)
    go (suc d) b e half below =
        let low : m / 2 < 2 ^ d = half d (λ i x. omega (arith, below i (in_pick (eqb (m % 2) 1) s x))) in
        let twice : 2 ^ suc d ≡ 2 ^ d * 2 = pow-suc 2 d in
        omega arith

pub mask_below : (m d : ℕ) → m < 2 ^ cycle_most → ((i : ℕ) → i ∈ offsets m → i < d) → m < 2 ^ d
unfolding offsets
mask_below m d h below = places_below cycle_most 0 d m h (λ i x. omega (arith, below i x))
