-- The grid of clashes: what loops over offsets, entries and rows have filled in. Assumes nothing.
use Rattle.std.proofs.Common.{ℕ, ◌+◌, ◌≤◌, ◌<◌, ◌≡◌, ◌||◌, true, false, List, [], length, get_or, map, take, refl, ap, sym, ◌∙◌, arith}
use Rattle.std.proofs.Math.ListN.{set, length-map, length-take}
use Rattle.std.proofs.lemmas.List.{get_or-set_same, get_or-set_other, get_or-take, take-map}
use Rattle.std.specs.Prelude.{eqb}
use native.Mathlib.Decide.{dec_lt}
use borrow.Author.Tests.{ne_eqb}
use mathlib.Core.Bool.{or-false}
use Rattle.arrayvec.specs.ArrayVec.{ArrayVec}
use Rattle.model.specs.Network.{Request}
use Rattle.model.specs.Search.{clash_of}
use Rattle.num_divisor.specs.Common.{Common}
use Rattle.num_mask.specs.Bits.{bit, Marked}
use Rattle.num_mask.proofs.Laws.{bit-none, marked_new, offsets-zero}
use Rattle.num_cyclic.specs.Ahead.{ahead}
use Rattle.plan.specs.declared.Circuit.{Circuit}
use Rattle.plan.specs.Plan.{CircuitPlan, no_circuit, shown, circuits_in, circuit_in, claim, Stands, Booked}
use Rattle.plan.proofs.Laws.{cycle_is, booking_is}
use Rattle.clash_pair.specs.Differences.{Bad}
use Rattle.clash_pair.proofs.Hitting.{bad_clash}
use Rattle.slot_grid.specs.Table.{RowBarred, RowFilled, RowsFilled, clash_in, pair_clash, FilledFor}

-- ---- one entry: the offsets below k are settled, and no other is in

pub record BarredTo (bad g b k acc : ℕ) : Type 0 where
  pub settled : (a : ℕ) → a < k → bit acc a ≡ bit bad (ahead g a b)
  pub clear : (a : ℕ) → k ≤ a → bit acc a ≡ false

module _ {bad g b : ℕ} where
  pub barred-none : BarredTo bad g b 0 0
  barred-none = record { settled = λ a h. absurd (omega arith); clear = λ a h. bit-none a }

  module _ {k acc : ℕ} (done : BarredTo bad g b k acc) where
    pub barred_skip : bit bad (ahead g k b) ≡ false → BarredTo bad g b (k + 1) acc
    barred_skip f = record { settled = λ a h. pick a h (dec_lt a k); clear = λ a h. done.clear a (omega arith) }
      where
        pick : (a : ℕ) → a < k + 1 → Dec (a < k) → bit acc a ≡ bit bad (ahead g a b)
        pick a h (yes l) = done.settled a l
        pick a h (no l) = let s : a ≡ k = omega arith in rw s (done.clear k (omega arith) ∙ sym f)

    pub barred_mark : {r : ℕ} → bit bad (ahead g k b) ≡ true → Marked acc k r → BarredTo bad g b (k + 1) r
    barred_mark {r} f m = record {
      settled = λ a h. pick a h (dec_lt a k);
      clear = λ a h. m.bits a ∙ ap (λ z. z || eqb a k) (done.clear a (omega arith)) ∙ ne_eqb a k (λ e. omega arith);
    }
      where
        pick : (a : ℕ) → a < k + 1 → Dec (a < k) → bit r a ≡ bit bad (ahead g a b)
        pick a h (yes l) =
            m.bits a ∙ ap (λ z. bit acc a || z) (ne_eqb a k (λ e. omega arith)) ∙ or-false (bit acc a) ∙ done.settled a l
        pick a h (no l) = let s : a ≡ k = omega arith in rw s (marked_new m ∙ sym f)

-- ---- one place more of a list

pub set_more : {A : Type 0} (P : ℕ → A → Type 0) (xs : List A) (k : ℕ) (x d : A) → k < length xs
    → ((i : ℕ) → i < k → P i (get_or xs i d)) → P k x → (i : ℕ) → i < k + 1 → P i (get_or (set xs k x) i d)
set_more P xs k x d inside before here i h = pick (dec_lt i k)
  where
    pick : Dec (i < k) → P i (get_or (set xs k x) i d)
    pick (yes l) = rw (get_or-set_other xs k i x d (λ e. omega arith)) (before i l)
    pick (no l) = let s : i ≡ k = omega arith in rw (s, get_or-set_same xs k x d inside) here

-- ---- one pair

pub pair_filled : (x y : CircuitPlan) {g bad : ℕ} {row : List ℕ} → 1 ≤ x.cycle → Common x.cycle y.cycle g → Bad g x.uses y.uses bad
    → RowBarred bad g x.cycle y.cycle row → RowFilled x y row
unfolding pair_clash
pair_filled x y {g} {bad} low common m r = record {
  at = λ a b ha hb. (r.entries b hb).bits a ha ∙ bad_clash (claim x 0) (claim y 0) g bad low common.is m a b;
}

-- ---- the whole plan

-- the test of two offsets does not ask for the offsets of the circuits
clash_stands : {q : Request} {p : ArrayVec Circuit} → Stands q p → {c e : ℕ} → c < circuits_in p → e < circuits_in p → (a b : ℕ)
    → pair_clash (circuit_in p c) (circuit_in p e) a b ≡ clash_of q c a e b
unfolding pair_clash clash_of
clash_stands {q} {p} s hc he a b =
    let booked : Booked q [] p [] = record { stands = s; taken = λ c h. offsets-zero } in
    rw (booking_is booked hc, booking_is booked he) refl

pub grid_filled : (p : ArrayVec Circuit) (grid : List (List (List ℕ)))
    → ((c : ℕ) → c < circuits_in p → RowsFilled (circuit_in p c) (map shown (take c p.items)) (get_or grid c [])) → FilledFor p grid
unfolding clash_in
grid_filled p grid filled q stands = record {
  at = λ c a e b hc he ha hb.
      let rows = filled c hc in
      let inside : e < length (map shown (take c p.items)) = simp (length-map, length-take) (omega arith) in
      let same : get_or (map shown (take c p.items)) e no_circuit ≡ circuit_in p e = rw (← take-map) (get_or-take c (map shown p.items) e no_circuit he) in
      (rw same at (rows.at e inside)).at a b (rw (cycle_is stands hc) ha) (rw (cycle_is stands {c = e} (omega arith)) hb)
      ∙ clash_stands stands hc (omega arith) a b;
}
