-- What callers know of a line of a table file without a fault: where it stands, and that it is good. Assumes nothing.
use Prim.Native.Nat.{ℕ, zero, suc, ◌+◌, ◌≤◌, ◌<◌}
use mathlib.Core.Path.{◌≡◌, refl, sym, ap, ◌∙◌}
use mathlib.Core.Bool.{false}
use mathlib.Core.List.{List, [], ◌∷◌, ◌++◌}
use native.Mathlib.Nat.{not-suc-le-zero}
use native.Mathlib.Omega.{arith}
use lib.ListN.{length, get_or, length-map, get_or-append}
use Rattle.model.specs.Sizes.{lines_most, head_size, line_kind, line_size}
use Rattle.model.specs.Bytes.{length_at}
use Rattle.model.specs.Network.{Network}
use Rattle.model.specs.Lines.{line_of, no_line}
use Rattle.model.specs.Sound.{SoundLine}
use Rattle.model.specs.Reading.{Walked, complete, stopped, starts, line_verdict, next_at, table_step, table_walk, line_at, table}
use Rattle.model.proofs.Tests.{same}
use Rattle.std.proofs.lemmas.List.{get_or-map}
use Rattle.model.proofs.Records.{Row, Comes, walk_comes, Passes, step_says}
use Rattle.model.proofs.Readers.{line_tests_lem, table_sound}
use Rattle.file_line.specs.Parts.{line_start, LineIn}

-- ---- where the lines stand

-- the record behind a line that passes
next_is : (net : Network) (s : List ℕ) (n p next : ℕ) → table_step net s n p ≡ next_at next → next ≡ p + (head_size + line_size)
unfolding table_step
next_is net s n p next e =
    let here : Passes line_kind (line_verdict net s n p) s p next = step_says line_kind false (line_verdict net s n p) s p (next_at next) e in
    omega (arith, here.next_is, same (length_at s p) line_size (line_tests_lem net s n p here.fine).1.0)

-- lines that stand one behind the other
row_at : (net : Network) (s l : List ℕ) (p : ℕ) → Row (table_step net s) 0 l p → (n : ℕ) → n ≤ length l → get_or (l ++ (p ∷ [])) n 0 ≡ line_start n
row_at net s l p r zero h = r.begins
row_at net s l p r (suc n) h =
    omega (arith, row_at net s l p r n (omega arith), get_or-append l (p ∷ []) 0 n h, next_is net s n (get_or l n 0) _ (r.each n h))

start_is : (net : Network) (s : List ℕ) (m : ℕ) → m < length (starts (table_walk net s)) → get_or (starts (table_walk net s)) m 0 ≡ line_start m
unfolding table_walk
start_is net s m h = go (table_walk net s) h (walk_comes (table_step net s) (suc lines_most) 0 (table_walk net s) refl)
  where
    go : (w : Walked) → m < length (starts w) → Comes (table_step net s) (suc lines_most) 0 w → get_or (starts w) m 0 ≡ line_start m
    go (complete l) h c = sym (get_or-append l (c.last ∷ []) 0 m h) ∙ row_at net s l c.last c.row m (omega arith)
    go (stopped f p) h c = absurd (not-suc-le-zero h)

-- ---- a line without a fault

module _ (net : Network) (s : List ℕ) (m : ℕ) (here : LineIn net s m) where
  listed : m < length (starts (table_walk net s))
  unfolding table
  listed = omega (arith, length-map (starts (table_walk net s)) (line_at s), here.low)

  -- line m is read at its start
  pub line_is : line_of (table net s) m ≡ line_at s (line_start m)
  unfolding table
  line_is = get_or-map (line_at s) (starts (table_walk net s)) m 0 no_line listed ∙ ap (line_at s) (start_is net s m listed)

  pub line_good : SoundLine net (line_at s (line_start m))
  line_good = rw line_is at ((table_sound net s here.whole).each m here.low)
