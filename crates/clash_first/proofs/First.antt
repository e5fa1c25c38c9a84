-- Where a plan first clashes: what loops over pairs, slots and resources have passed. Assumes nothing.
use Prim.Native.Nat.{ℕ, zero, ◌+◌, ◌*◌, ◌≤◌, ◌<◌}
use mathlib.Core.Path.{◌≡◌, refl, sym, subst, ◌∙◌}
use mathlib.Core.Logic.{◌⊎◌, inl, inr, ◌≢◌}
use mathlib.Core.Bool.{Bool, true, false}
use mathlib.Core.List.{List}
use mathlib.Core.Option.{none, some}
use native.Mathlib.Omega.{arith}
use native.Mathlib.Decide.{dec_lt}
use lib.ListN.{length}
use lib.Dec.{T}
use Rattle.model.specs.Sizes.{resources_most}
use Rattle.model.specs.Tests.{◌∈◌}
use Rattle.model.specs.Network.{Request}
use Rattle.model.specs.declared.Use.{Use}
use Rattle.model.specs.Holding.{Booking, Holds, Clash, FirstClash, booking, both?, clashes?, clash_fault}
use Rattle.model.specs.declared.Answer.TheVariants.{Clash as ClashAnswer}
use Rattle.model.proofs.Tests.{eq→T, and→, →and}
use Rattle.model.proofs.Divisor.{wrap}
use Rattle.model.proofs.Clashing.{holds→, →holds, →clashes, turned, Holds_at}
use Rattle.model.proofs.Sound.{uses_small}
use Rattle.model.proofs.Checking.{clash_none, clash_first}
use Rattle.arrayvec.specs.ArrayVec.{ArrayVec}
use Rattle.plan.specs.declared.Circuit.{Circuit}
use Rattle.plan.specs.Plan.{circuits_in, booking_in, Booked}
use Rattle.plan.proofs.Laws.{booking_is}

-- ---- two circuits

-- no resource below w is held by both in slot t; none at all in a slot before t
pub record ClearWhats (p q : Booking) (t w : ℕ) : Type 0 where
  pub none : (v : ℕ) → v < w → both? p q t v ≡ false

pub record ClearSlots (p q : Booking) (t : ℕ) : Type 0 where
  pub none : (s : ℕ) → s < t → ClearWhats p q s resources_most

abbrev pub ClearPair : Booking → Booking → Type 0
ClearPair p q = ClearSlots p q (p.cycle * q.cycle)

within : {p : Booking} → ((u : Use) → u ∈ p.uses → u.what < resources_most) → {t w : ℕ} → Holds p t w → w < resources_most
within small h = rw (← h.same) (small h.by h.used)

module _ {p q : Booking} where
  pub slots_all : {t : ℕ} → ClearSlots p q t → p.cycle * q.cycle ≤ t → ClearPair p q
  slots_all c all = record { none = λ s h. c.none s (omega arith) }

  -- a pair that does not clash
  pub pair_skip : zero < p.cycle → zero < q.cycle → clashes? p q ≡ false → ClearPair p q
  pair_skip hp hq e = record { none = λ t h. record { none = λ w k. no t w (both? p q t w) refl } }
    where
      no : (t w : ℕ) (b : Bool) → both? p q t w ≡ b → both? p q t w ≡ false
      no t w false f = f
      no t w true f =
          let h = and→ _ _ (eq→T f) in
          let c : T (clashes? p q) = →clashes p q hp hq (record { slot = t; what = w; left = holds→ p t w h.0; right = holds→ q t w h.1 }) in
          absurd (rw e at c)

  never : {t w : ℕ} → both? p q t w ≡ false → Holds p t w → Holds q t w → ⊥
  never {t} {w} e l r = let h : T (both? p q t w) = →and _ _ (→holds p t w l) (→holds q t w r) in rw e at h

  module _ (small : (u : Use) → u ∈ p.uses → u.what < resources_most) where
    pub pair_apart : zero < p.cycle → zero < q.cycle → ClearPair p q → Clash p q → ⊥
    pair_apart hp hq clear c =
        let w = wrap p.cycle q.cycle c.slot hp hq in
        never ((clear.none _ w.0).none c.what (within small c.left)) (Holds_at p w.1 c.left) (Holds_at q w.2 c.right)

    pub pair_first : {t w : ℕ} → ClearSlots p q t → ClearWhats p q t w → both? p q t w ≡ true → FirstClash p q t w
    pair_first {t} {w} ct cw e =
        let h = and→ _ _ (eq→T e) in
        record {
          left = holds→ p t w h.0;
          right = holds→ q t w h.1;
          earliest = λ s v k l r. never ((ct.none s k).none v (within small l)) l r;
          lowest = λ v k l r. never (cw.none v k) l r;
        }

-- ---- all pairs

-- the pairs of circuit i with those behind it and below j; and all pairs whose lower circuit is below i
pub record ClearHigher (b : ℕ → Booking) (i j : ℕ) : Type 0 where
  pub none : (k : ℕ) → i < k → k < j → ClearPair (b i) (b k)

pub record ClearLower (b : ℕ → Booking) (n i : ℕ) : Type 0 where
  pub none : (h : ℕ) → h < i → ClearHigher b h n

module _ {b : ℕ → Booking} where
  pub higher_more : {i j : ℕ} {p q : Booking} → ClearHigher b i j → p ≡ b i → q ≡ b j → ClearPair p q → ClearHigher b i (j + 1)
  higher_more {i} {j} c left right e = record { none = λ k h l. pick k h l (dec_lt k j) }
    where
      pick : (k : ℕ) → i < k → k < j + 1 → Dec (k < j) → ClearPair (b i) (b k)
      pick k h l (yes m) = c.none k h m
      pick k h l (no m) = let s : k ≡ j = omega arith in rw (s, ← left, ← right) e

  pub lower_more : {n i j : ℕ} → ClearLower b n i → ClearHigher b i j → n ≤ j → ClearLower b n (i + 1)
  lower_more {n} {i} {j} c e all = record { none = λ h l. pick h l (dec_lt h i) }
    where
      pick : (h : ℕ) → h < i + 1 → Dec (h < i) → ClearHigher b h n
      pick h l (yes m) = c.none h m
      pick h l (no m) = let s : h ≡ i = omega arith in rw s (record { none = λ k x y. e.none k x (omega arith) })

-- ---- a plan

module _ {q : Request} {assigned : List (List ℕ)} {p : ArrayVec Circuit} {m : List ℕ} (b : Booked q assigned p m) where
  listed : {c : ℕ} → c < circuits_in p → c < length q.circuits
  listed h = rw b.stands.many at h

  positive : {c : ℕ} → c < circuits_in p → zero < (booking q assigned c).cycle
  unfolding booking
  positive {c} h = (b.stands.sound.path c (listed h)).cycle

  small : {c : ℕ} → c < circuits_in p → (u : Use) → u ∈ (booking q assigned c).uses → u.what < resources_most
  unfolding booking
  small {c} h u k = uses_small q b.stands.sound c (listed h) u k

  -- the pairs that were passed do not clash
  apart : {c d : ℕ} → c < circuits_in p → d < circuits_in p → ClearPair (booking_in p m c) (booking_in p m d) → Clash (booking q assigned c) (booking q assigned d) → ⊥
  apart {c} {d} hc hd clear =
      pair_apart (small hc) (positive hc) (positive hd)
      (subst (λ x. ClearPair x (booking q assigned d)) (booking_is b hc) (subst (λ y. ClearPair (booking_in p m c) y) (booking_is b hd) clear))

  pub nowhere : {n i : ℕ} → ClearLower (booking_in p m) n i → n ≤ i → n ≡ circuits_in p → none ≡ clash_fault q assigned
  nowhere {n} {i} lower all is = sym ((clash_none q b.stands.sound assigned).1 (record {
    apart = λ c d hc hd ne. pick (rw b.stands.many hc) (rw b.stands.many hd) ne (dec_lt c d);
  }))
    where
      pick : {c d : ℕ} → c < circuits_in p → d < circuits_in p → c ≢ d → Dec (c < d) → Clash (booking q assigned c) (booking q assigned d) → ⊥
      pick {c} {d} hc hd ne (yes k) cl = apart hc hd ((lower.none c (omega arith)).none d k (omega arith)) cl
      pick {c} {d} hc hd ne (no k) cl =
          apart hd hc ((lower.none d (omega arith)).none c (less ne k) (omega arith)) (turned cl)
        where
          less : c ≢ d → (c < d → ⊥) → d < c
          less ne k = pick' (dec_lt d c)
            where
              pick' : Dec (d < c) → d < c
              pick' (yes l) = l
              pick' (no l) = absurd (ne (omega arith))

  pub somewhere : {n i j t w : ℕ} {x y : Booking} → ClearLower (booking_in p m) n i → ClearHigher (booking_in p m) i j → x ≡ booking_in p m i → y ≡ booking_in p m j
      → ClearSlots x y t → ClearWhats x y t w → n ≡ circuits_in p → i < j → j < n → both? x y t w ≡ true → some (ClashAnswer i j t w) ≡ clash_fault q assigned
  somewhere {n} {i} {j} {t} {w} {x} {y} ci cj left right ct cw is order below both =
      sym ((clash_first q b.stands.sound assigned i j t w).1 (record {
        order = order;
        listed = listed hj;
        first = rw (left ∙ booking_is b hi, right ∙ booking_is b hj) at first;
        sooner = λ c d k h x cl. sooner k (rw b.stands.many h) x cl;
      }))
    where
      hj : j < circuits_in p
      hj = omega arith

      hi : i < circuits_in p
      hi = omega arith

      first : FirstClash x y t w
      first = pair_first (rw (left ∙ booking_is b hi) (small hi)) ct cw both

      sooner : {c d : ℕ} → c < d → d < circuits_in p → (c < i) ⊎ ((c ≡ i) × (d < j)) → Clash (booking q assigned c) (booking q assigned d) → ⊥
      sooner {c} {d} k h (inl x) cl = apart (omega arith) h ((ci.none c x).none d k (omega arith)) cl
      sooner {c} {d} k h (inr x) cl = apart (omega arith) h (rw x.0 (cj.none d (rw (← x.0) k) x.1)) cl
