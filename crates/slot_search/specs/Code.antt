-- How the code's numbers stand for the definition's: the circuits of a plan, the walk from a place on, and the outcome of a walk under
-- a budget. Assumes nothing: these are definitions.
use Rattle.std.specs.Prelude.{◌≡◌, ℕ, ◌+◌, ◌-◌, ◌^◌, ◌<◌, ◌≤◌, cond, List, [], ◌∷◌, ◌++◌, map, take, drop, leb}
use Rattle.std.specs.declared.result.Result.{Result}
use Rattle.std.specs.declared.result.Result.TheVariants.{Ok, Err}
use Rattle.arrayvec.specs.ArrayVec.{ArrayVec}
use Rattle.model.specs.Tests.{neg, up_to}
use Rattle.model.specs.Network.{Circuit as Asked}
use Rattle.model.specs.Search.{Walk, found, no_room, cells, search, Reply, slots, full, unfinished}
use Rattle.num_mask.specs.Bits.{bit, offsets}
use Rattle.plan.specs.declared.Circuit.{Circuit}
use Rattle.plan.specs.Plan.{circuits_in, circuit_in, cycle_in}
use Rattle.slot_grid.specs.Table.{clash_in}
use Rattle.slot_search.specs.declared.Spent.{Spent}
use Rattle.slot_search.specs.declared.Outcome.{Outcome}
use Rattle.slot_search.specs.declared.Outcome.TheVariants.{Found, NoRoom}

-- ---- a problem

abbrev pub demand_in : (p : ArrayVec Circuit) → ℕ → ℕ
demand_in p c = (circuit_in p c).demand

-- the circuits of a plan, with no path: the search does not look at it
abbrev pub pathless : (p : ArrayVec Circuit) → ℕ → Asked
pathless p c = record { cycle = cycle_in p c; demand = demand_in p c; path = [] }

unfoldable pub circuits : (p : ArrayVec Circuit) → List Asked
circuits p = up_to (circuits_in p) (pathless p)

-- ---- the walk from a place on

-- a cell of circuit c, or the end of its cells, where the mask's offsets are below it
pub record Inside (p : ArrayVec Circuit) (c a mask : ℕ) : Type 0 where
  pub circuit : c < circuits_in p
  pub within : a ≤ cycle_in p c
  pub low : mask < 2 ^ a

-- the walk from circuit c on
unfoldable pub from_circuit : (grid : List (List (List ℕ))) (p : ArrayVec Circuit) (c : ℕ) (earlier : List (List ℕ)) → Walk
from_circuit grid p c earlier = search (clash_in grid) (drop c (circuits p)) earlier

-- the walk from cell a of circuit c on, of which the offsets in `shut` are not free
unfoldable pub from_cell : (grid : List (List (List ℕ))) (p : ArrayVec Circuit) (c shut : ℕ) (earlier : List (List ℕ)) (left a : ℕ) (taken : List ℕ) → Walk
from_cell grid p c shut earlier left a taken =
    cells (λ i. neg (bit shut i)) (demand_in p c) (λ os. from_circuit grid p (c + 1) (earlier ++ (os ∷ []))) left a taken

-- ---- what it comes to

abbrev pub Walked : Type 0
Walked = Result Outcome Spent

-- the budget is spent
abbrev pub over : Walked
over = Err (record {})

-- a walk where at most `left` visits may be made: an answer with what is left of them
unfoldable pub cut : ℕ → Walk → Walked
cut left (found v os) = cond (leb v left) (Ok (Found (left - v))) over
cut left (no_room v) = cond (leb v left) (Ok (NoRoom (left - v))) over

-- the offsets that were found
unfoldable pub assigned : Walk → List (List ℕ)
assigned (found v os) = os
assigned (no_room v) = []

-- a walk w from circuit c of n on, under the budget `left`, ends with r and changes the masks from `old` to `new`
pub record WalkEnds (w : Walk) (n c left : ℕ) (old new : List ℕ) (r : Walked) : Type 0 where
  pub answer : r ≡ cut left w
  pub kept : take c new ≡ take c old
  pub holds : (rest : ℕ) → r ≡ Ok (Found rest) → map offsets (take n new) ≡ assigned w

-- the walk from circuit c on ends so, where the masks before it hold what the earlier circuits have taken
abbrev pub CircuitEnds : (grid : List (List (List ℕ))) (p : ArrayVec Circuit) (c left : ℕ) (old new : List ℕ) (r : Walked) → Type 0
CircuitEnds grid p c left old new r = WalkEnds (from_circuit grid p c (map offsets (take c old))) (circuits_in p) c left old new r

-- the walk from its cell a on, where it has taken the mask's offsets
abbrev pub CellEnds : (grid : List (List (List ℕ))) (p : ArrayVec Circuit) (c a mask shut left : ℕ) (old new : List ℕ) (r : Walked) → Type 0
CellEnds grid p c a mask shut left old new r =
    WalkEnds (from_cell grid p c shut (map offsets (take c old)) (cycle_in p c - a) a (offsets mask)) (circuits_in p) c left old new r

-- the code's reply to the definition's, with the visits that were made: where slots were found the masks of the n circuits hold the offsets
pub record Replies (replied : Reply) (n : ℕ) (new : List ℕ) (r : Walked) : Type 0 where
  pub to_slots : (v : ℕ) (os : List (List ℕ)) → replied ≡ slots v os → (r ≡ Ok (Found v)) × (map offsets (take n new) ≡ os)
  pub to_full : (v : ℕ) → replied ≡ full v → r ≡ Ok (NoRoom v)
  pub to_unfinished : replied ≡ unfinished → r ≡ over
