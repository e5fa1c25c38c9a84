-- Laws of the search's definition, as the code's proofs use them: the walk one step at a time. Assumes nothing.
use mathlib.Core.Path.{◌≡◌, refl, sym, ap, ◌∙◌, fun_ext}
use mathlib.Core.Bool.{Bool}
use mathlib.Core.List.{List, [], ◌∷◌, ◌++◌}
use Prim.Native.Nat.{ℕ, suc, ◌+◌, ◌-◌, ◌≤◌, ◌<◌}
use native.Mathlib.Nat.{sub-zero}
use native.Mathlib.Numerals.{add-one}
use native.Mathlib.Omega.{arith}
use lib.ListN.{length, drop, drop_of_length-le}
use lib.Seq.{drop-cons}
use lib.Dec.{leb, ltb}
use Rattle.arrayvec.specs.ArrayVec.{ArrayVec}
use Rattle.plan.specs.declared.Circuit.{Circuit}
use Rattle.model.specs.Tests.{◌and◌, neg}
use Rattle.model.specs.Network.{Circuit as Asked, no_circuit}
use Rattle.model.specs.Search.{Walk, found, barred, cells, choice, then_try, search}
use Rattle.model.proofs.Tests.{length-up_to, get_or-up_to}
use Rattle.num_mask.specs.Bits.{bit, offsets}
use Rattle.num_mask.proofs.Laws.{offsets-zero}
use Rattle.plan.specs.Plan.{circuits_in, cycle_in}
use Rattle.slot_grid.specs.Table.{clash_in}
use Rattle.slot_search.specs.Code.{demand_in, pathless, circuits, from_circuit, from_cell}

-- ---- the walk

module _ (grid : List (List (List ℕ))) (p : ArrayVec Circuit) (c : ℕ) (earlier : List (List ℕ)) where
  pub circuit_end : c ≡ circuits_in p → from_circuit grid p c earlier ≡ found 0 earlier
  unfolding from_circuit circuits search
  circuit_end l =
      let past : length (circuits p) ≤ c = omega (arith, length-up_to (circuits_in p) (pathless p)) in
      rw (drop_of_length-le (circuits p) past) refl

  -- circuit c, and the others behind it
  first : c < circuits_in p → drop c (circuits p) ≡ pathless p c ∷ drop (suc c) (circuits p)
  unfolding circuits
  first l =
      let inside : c < length (circuits p) = omega (arith, length-up_to (circuits_in p) (pathless p)) in
      drop-cons (circuits p) c no_circuit inside
      ∙ ap (λ (x : Asked). x ∷ drop (suc c) (circuits p)) (get_or-up_to (circuits_in p) (pathless p) c no_circuit l)

  pub circuit_enter : (shut : ℕ) → c < circuits_in p → length earlier ≡ c
      → ((i : ℕ) → bit shut i ≡ barred (clash_in grid) c i 0 earlier)
      → from_circuit grid p c earlier ≡ from_cell grid p c shut earlier (cycle_in p c - 0) 0 (offsets 0)
  unfolding from_circuit from_cell search
  circuit_enter shut l q h =
      let free : ◌≡◌ {A = ℕ → Bool} (λ i. neg (barred (clash_in grid) (length earlier) i 0 earlier)) (λ i. neg (bit shut i)) =
      fun_ext (λ i. ap neg (ap (λ (k : ℕ). barred (clash_in grid) k i 0 earlier) q ∙ sym (h i))) in
      rw (first l, free, sub-zero (cycle_in p c), offsets-zero, add-one c) refl

  pub cell_end : (shut d a : ℕ) (taken : List ℕ) → a ≡ d
      → from_cell grid p c shut earlier (d - a) a taken ≡ from_circuit grid p (c + 1) (earlier ++ (taken ∷ []))
  unfolding from_cell cells
  cell_end shut d a taken e =
      let none : d - a ≡ 0 = omega arith in
      rw none refl

  -- the walk where cell a is taken, and where it is skipped, with `left` cells behind it
  module _ (shut left a : ℕ) (taken : List ℕ) where
    unfoldable pub from_take : Walk
    from_take = choice (ltb (length taken) (demand_in p c) and neg (bit shut a)) (from_cell grid p c shut earlier left (a + 1) (taken ++ (a ∷ [])))

    unfoldable pub from_skip : Walk
    from_skip = choice (leb (demand_in p c) (length taken + left)) (from_cell grid p c shut earlier left (a + 1) taken)

  pub cell_split : (shut d a : ℕ) (taken : List ℕ) → a < d
      → from_cell grid p c shut earlier (d - a) a taken ≡ then_try (from_take shut (d - (a + 1)) a taken) (from_skip shut (d - (a + 1)) a taken)
  unfolding from_cell from_take from_skip cells
  cell_split shut d a taken l =
      let more : d - a ≡ suc (d - (a + 1)) = omega arith in
      rw (more, add-one a) refl
