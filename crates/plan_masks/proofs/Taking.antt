-- Rising offsets taken one by one into a mask, and the bytes of a record as its offsets. Assumes nothing.
use Prim.Native.Nat.{ℕ, zero, suc, ◌+◌, ◌^◌, ◌≤◌, ◌<◌}
use mathlib.Core.Path.{◌≡◌, refl, ap, ap₂, ◌∙◌, fun_ext}
use mathlib.Core.Logic.{◌⊎◌, inl, inr}
use mathlib.Core.List.{List, [], ◌∷◌}
use mathlib.Core.List.Memᴰ
use native.Mathlib.Nat.{not-suc-le-zero, le_of_suc-le-suc}
use native.Mathlib.Omega.{arith}
use native.Mathlib.Decide.{ℕ_discrete}
use lib.ListN.{length, get_or, set, take, drop}
use Rattle.std.proofs.Math.Seq.{drop-cons}
use Rattle.std.proofs.lemmas.List.{get_or-set_same, get_or-set_other}
use Rattle.model.specs.Sizes.{cycle_most, head_size}
use Rattle.model.specs.Tests.{◌∈◌, up_to}
use Rattle.model.specs.Bytes.{length_at}
use Rattle.model.specs.Search.{Rises}
use Rattle.model.specs.Reading.{offsets_at}
use Rattle.model.proofs.Sound.{rises_at}
use Rattle.num_mask.specs.Bits.{offsets, Above}
use Rattle.num_mask.proofs.Laws.{mask_below}
use Rattle.file_records.specs.Fields.{Word}
use Rattle.plan_masks.specs.Masks.{Risings, MasksOf}

-- what stands before number i is below it
rises_to : (a e : ℕ) (os : List ℕ) → Rises a e os → (i o : ℕ) → i < length os → o ∈ take i os → o < get_or os i 0
rises_to a e [] r i o h m = absurd (not-suc-le-zero h)
rises_to a e (x ∷ os) r zero o h m = absurd (Memᴰ.not-nil m)
rises_to a e (x ∷ os) r (suc i) o h m = go (Memᴰ.cases_cons m) (rises_to (suc x) e os r.2 i o (le_of_suc-le-suc h))
  where
    go : (o ≡ x) ⊎ (o ∈ take i os) → (o ∈ take i os → o < get_or os i 0) → o < get_or os i 0
    go (inl s) rest = omega (arith, s, (rises_at (suc x) e os r.2 i (le_of_suc-le-suc h)).0)
    go (inr m) rest = rest m

module _ (os : List ℕ) (i : ℕ) (r : Rises 0 cycle_most os) (h : i < length os) where
  pub offset_small : get_or os i 0 < cycle_most
  offset_small = (rises_at 0 cycle_most os r i h).1

  pub above_here : (m : ℕ) → m < 2 ^ cycle_most → offsets m ≡ take i os → Above m (get_or os i 0)
  above_here m fits e = record {
    inside = offset_small;
    low = mask_below m (get_or os i 0) fits (λ o x. rises_to 0 cycle_most os r i o h (rw e at x));
  }

-- n bytes from a on
bytes_are : (s : List ℕ) (n a : ℕ) → a + n ≤ length s → take n (drop a s) ≡ up_to n (λ i. get_or s (a + i) 0)
unfolding up_to
bytes_are s zero a h = refl
bytes_are s (suc n) a h =
    ap (take (suc n)) (drop-cons s a 0 (omega arith))
    ∙ ap₂
    (λ (x : ℕ) (xs : List ℕ). x ∷ xs)
    (ap (λ (k : ℕ). get_or s k 0) (omega arith))
    (bytes_are s n (suc a) (omega arith) ∙ ap (λ (f : ℕ → ℕ). up_to n f) (fun_ext (λ i. ap (λ (k : ℕ). get_or s k 0) (omega arith))))

-- ---- the records one after the other

module _ (s starts : List ℕ) (c n count : ℕ) (g : Risings s starts) (l : c < length starts) (w : Word s (get_or starts c 0) count) (e : n ≡ count) where
  pub record_is : take n (drop (get_or starts c 0 + head_size) s) ≡ offsets_at s (get_or starts c 0)
  record_is =
      let size : n ≡ length_at s (get_or starts c 0) = e ∙ w.is in
      ap (λ (k : ℕ). take k (drop (get_or starts c 0 + head_size) s)) size
      ∙ bytes_are s (length_at s (get_or starts c 0)) (get_or starts c 0 + head_size) (g.each c l).inside

  pub rising_here : Rises 0 cycle_most (take n (drop (get_or starts c 0 + head_size) s))
  rising_here = rw record_is ((g.each c l).rises)

  pub masks_more : (masks : List ℕ) (m : ℕ) → c < length masks → MasksOf s starts masks c → offsets m ≡ take n (drop (get_or starts c 0 + head_size) s)
      → m < 2 ^ cycle_most → MasksOf s starts (set masks c m) (c + 1)
  masks_more masks m h t x fits = record { each = λ k b. go k b (ℕ_discrete k c); fits = λ k b. low k b (ℕ_discrete k c) }
    where
      go : (k : ℕ) → k < c + 1 → Dec (k ≡ c) → offsets (get_or (set masks c m) k 0) ≡ offsets_at s (get_or starts k 0)
      go k b (yes z) = rw (z, get_or-set_same masks c m 0 h) (x ∙ record_is)
      go k b (no z) = rw (get_or-set_other masks c k m 0 z) (t.each k (omega arith))

      low : (k : ℕ) → k < c + 1 → Dec (k ≡ c) → get_or (set masks c m) k 0 < 2 ^ cycle_most
      low k b (yes z) = rw (z, get_or-set_same masks c m 0 h) fits
      low k b (no z) = rw (get_or-set_other masks c k m 0 z) (t.fits k (omega arith))
