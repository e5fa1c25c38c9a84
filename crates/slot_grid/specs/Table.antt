-- The grid of clashes, entry by entry. Assumes nothing: these are definitions.
use Rattle.std.specs.Prelude.{ℕ, ◌<◌, ◌≡◌, Bool, List, [], length, get_or}
use Rattle.arrayvec.specs.ArrayVec.{ArrayVec}
use Rattle.model.specs.Network.{Request, circuit_of}
use Rattle.model.specs.Holding.{offsets_clash?}
use Rattle.model.specs.Search.{clash_of}
use Rattle.num_mask.specs.Bits.{bit}
use Rattle.num_cyclic.specs.Ahead.{ahead}
use Rattle.plan.specs.declared.Circuit.{Circuit}
use Rattle.plan.specs.Plan.{CircuitPlan, no_circuit, circuits_in, claim, Stands}

-- ---- offsets by the differences that clash

-- below d the bits of r are the offsets that clash with offset b
pub record Barred (bad g d b r : ℕ) : Type 0 where
  pub bits : (a : ℕ) → a < d → bit r a ≡ bit bad (ahead g a b)

-- the entries of a row are the offsets that clash with the offsets 0, 1, .. below e
pub record RowBarred (bad g d e : ℕ) (row : List ℕ) : Type 0 where
  pub entries : (b : ℕ) → b < e → Barred bad g d b (get_or row b 0)

-- ---- a grid has an entry for each circuit c, each circuit e and each offset of e

-- bit a of entry b: offset a of circuit c clashes with offset b of circuit e
unfoldable pub clash_in : (grid : List (List (List ℕ))) (c a e b : ℕ) → Bool
clash_in grid c a e b = bit (get_or (get_or (get_or grid c []) e []) b 0) a

-- the grid is right about the first n circuits of q
pub record Filled (q : Request) (n : ℕ) (grid : List (List (List ℕ))) : Type 0 where
  pub at : (c a e b : ℕ) → c < n → e < c → a < (circuit_of q c).cycle → b < (circuit_of q e).cycle → clash_in grid c a e b ≡ clash_of q c a e b

-- whatever request the plan stands for
abbrev pub FilledFor : ArrayVec Circuit → List (List (List ℕ)) → Type 0
FilledFor p grid = (q : Request) → Stands q p → Filled q (circuits_in p) grid

-- ---- by the plan

-- offset a of x clashes with offset b of y
unfoldable pub pair_clash : (x y : CircuitPlan) (a b : ℕ) → Bool
pair_clash x y a b = offsets_clash? (claim x 0) a (claim y 0) b

-- the row is right about circuits x and y
pub record RowFilled (x y : CircuitPlan) (row : List ℕ) : Type 0 where
  pub at : (a b : ℕ) → a < x.cycle → b < y.cycle → bit (get_or row b 0) a ≡ pair_clash x y a b

-- the rows are right about circuit x with each of the circuits before it
pub record RowsFilled (x : CircuitPlan) (earlier : List CircuitPlan) (rows : List (List ℕ)) : Type 0 where
  pub at : (e : ℕ) → e < length earlier → RowFilled x (get_or earlier e no_circuit) (get_or rows e [])
