-- A skip that is allowed or not, and the end of a circuit's cells. Assumes nothing.
use mathlib.Core.Path.{◌≡◌, sym, ap, ◌∙◌}
use mathlib.Core.Bool.{Bool, true, false}
use mathlib.Core.List.{List, [], ◌∷◌, ◌++◌, map, map-append}
use Prim.Native.Nat.{ℕ, ◌+◌, ◌-◌, ◌^◌, ◌≤◌, ◌<◌}
use native.Mathlib.Numerals.{add-one}
use native.Mathlib.Omega.{arith}
use lib.ListN.{length, get_or, take, set, length-map}
use lib.Seq.{length-take-le, take-suc-set, take-set-le, take-take}
use lib.Count.{ones}
use borrow.Author.Tests.{le-leb, lt-leb}
use Rattle.arrayvec.specs.ArrayVec.{ArrayVec}
use Rattle.plan.specs.declared.Circuit.{Circuit}
use Rattle.model.specs.Sizes.{cycle_most}
use Rattle.model.specs.Search.{Walk, choice}
use Rattle.num_mask.specs.Bits.{offsets}
use Rattle.num_mask.proofs.Laws.{offsets-length}
use Rattle.plan.specs.Plan.{shown, circuits_in, circuit_in, cycle_in}
use Rattle.plan.proofs.Laws.{circuit_at}
use Rattle.slot_search.specs.Code.{Walked, demand_in, from_circuit, from_cell, CircuitEnds, CellEnds}
use Rattle.slot_search.proofs.WalkLaws.{from_skip, cell_end}
use Rattle.slot_search.proofs.EndsLaws.{ends_same}

-- the circuit that stands at place c of a plan's list
pub own_is : (p : ArrayVec Circuit) (c : ℕ) (own : Circuit) {xs : List Circuit} → xs ≡ p.items → c < length xs → own ≡ get_or xs c own → shown own ≡ circuit_in p c
own_is p c own {xs} e h is = rw e at (circuit_at xs c own h is)

pub earlier_length : (taken : List ℕ) (c : ℕ) → c ≤ length taken → length (map offsets (take c taken)) ≡ c
earlier_length taken c h = length-map (take c taken) offsets ∙ length-take-le c taken h

module _ (grid : List (List (List ℕ))) (p : ArrayVec Circuit) (c : ℕ) (earlier : List (List ℕ)) (shut d a mask : ℕ) (fits : mask < 2 ^ cycle_most) (inside : a < d) where
  abbrev N : ℕ
  N = demand_in p c

  abbrev skipping : Walk
  skipping = from_skip grid p c earlier shut (d - (a + 1)) a (offsets mask)

  abbrev past : Walk
  past = from_cell grid p c shut earlier (d - (a + 1)) (a + 1) (offsets mask)

  pub skip_no : d + ones mask ≤ N + a → skipping ≡ choice false past
  unfolding from_skip
  skip_no h =
      let n = offsets-length mask fits in
      ap (λ (b : Bool). choice b past) (lt-leb N (length (offsets mask) + (d - (a + 1))) (omega arith))

  pub skip_yes : N + a < d + ones mask → skipping ≡ choice true past
  unfolding from_skip
  skip_yes h =
      let n = offsets-length mask fits in
      ap (λ (b : Bool). choice b past) (le-leb N (length (offsets mask) + (d - (a + 1))) (omega arith))

-- the last cell of circuit c is behind: its mask is stored, and the walk goes on at the next circuit
pub ends_circuit : (grid : List (List (List ℕ))) (p : ArrayVec Circuit) (c shut a mask l : ℕ) (old new : List ℕ) (r : Walked)
    → a ≡ cycle_in p c → c < circuits_in p → circuits_in p ≤ length old
    → CircuitEnds grid p (c + 1) l (set old c mask) new r → CellEnds grid p c a mask shut l old new r
ends_circuit grid p c shut a mask l old new r e listed room h =
    let stored : take (c + 1) (set old c mask) ≡ take c old ++ (mask ∷ []) = rw add-one (take-suc-set old c mask (omega arith)) in
    let masks : map offsets (take (c + 1) (set old c mask)) ≡ map offsets (take c old) ++ (offsets mask ∷ []) =
    ap (map offsets) stored ∙ map-append offsets (take c old) (mask ∷ []) in
    let end = cell_end grid p c (map offsets (take c old)) shut (cycle_in p c) a (offsets mask) e in
    let g = ends_same (ap (from_circuit grid p (c + 1)) masks ∙ sym end) h in
    record {
      answer = g.answer;
      kept =
          sym (take-take c (c + 1) new (omega arith)) ∙ ap (take c) g.kept
          ∙ take-take c (c + 1) (set old c mask) (omega arith) ∙ take-set-le c old c mask (omega arith);
      holds = g.holds;
    }
