-- What the earlier circuits shut, one circuit at a time. Assumes nothing.
use Rattle.std.proofs.Common.{ℕ, suc, ◌+◌, ◌≤◌, ◌<◌, ◌≡◌, ◌||◌, Bool, List, [], ◌∷◌, length, get_or, map, sym, ap, ◌∙◌, arith}
use Rattle.std.specs.List.{fold, zip}
use Rattle.std.specs.Int.Bits.{bit_or}
use mathlib.Core.Bool.{or_assoc, or-false}
use Rattle.model.specs.Tests.{any}
use Rattle.model.specs.Search.{barred}
use Rattle.num_mask.specs.Bits.{bit, offsets}
use Rattle.num_mask.proofs.Laws.{bit-or}
use Rattle.slot_grid.specs.Table.{clash_in}
use Rattle.slot_cells.specs.Cells.{gathered}

gathered-bit : (row : List ℕ) (x i : ℕ) (os : List ℕ) → bit (gathered row x os) i ≡ (bit x i || any (λ a. bit (get_or row a 0) i) os)
unfolding any
gathered-bit row x i [] = sym (or-false (bit x i))
gathered-bit row x i (a ∷ more) =
    gathered-bit row (bit_or x (get_or row a 0)) i more
    ∙ ap (λ (b : Bool). b || any (λ a. bit (get_or row a 0) i) more) (bit-or x (get_or row a 0) i)
    ∙ or_assoc (bit x i) (bit (get_or row a 0) i) (any (λ a. bit (get_or row a 0) i) more)

-- the rows and masks of the circuits from e on, joined bit by bit with x
abbrev pub joined : (x : ℕ) (rows : List (List ℕ)) (masks : List ℕ) → ℕ
joined x rows masks = fold (λ y (p : List ℕ × ℕ). gathered p.0 y (offsets p.1)) x (zip rows masks)

module _ (grid : List (List (List ℕ))) (c i : ℕ) where
  pub joined-bit : (e x : ℕ) (rows : List (List ℕ)) (masks : List ℕ) → length masks ≤ length rows
      → ((k : ℕ) → k < length rows → get_or rows k [] ≡ get_or (get_or grid c []) (e + k) [])
      → bit (joined x rows masks) i ≡ (bit x i || barred (clash_in grid) c i e (map offsets masks))
  unfolding barred clash_in
  joined-bit e x [] [] fits are = sym (or-false (bit x i))
  joined-bit e x [] (m ∷ masks) fits are = absurd (omega arith)
  joined-bit e x (row ∷ rows) [] fits are = sym (or-false (bit x i))
  joined-bit e x (row ∷ rows) (m ∷ masks) fits are =
      let first : row ≡ get_or (get_or grid c []) e [] = are 0 (omega arith) ∙ ap (λ n. get_or (get_or grid c []) n []) (omega arith) in
      let others : (k : ℕ) → k < length rows → get_or rows k [] ≡ get_or (get_or grid c []) (suc e + k) [] =
      λ k h. are (suc k) (omega arith) ∙ ap (λ n. get_or (get_or grid c []) n []) (omega arith) in
      joined-bit (suc e) (gathered row x (offsets m)) rows masks (omega arith) others
      ∙ ap (λ b. b || barred (clash_in grid) c i (suc e) (map offsets masks)) (gathered-bit row x i (offsets m))
      ∙ rw first
      (or_assoc (bit x i) (any (clash_in grid c i e) (offsets m)) (barred (clash_in grid) c i (suc e) (map offsets masks)))
