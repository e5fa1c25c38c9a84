-- What callers know of a table file that was read: how many lines it has. Assumes nothing.
use Prim.Native.Nat.{ℕ}
use mathlib.Core.Path.{◌≡◌, sym, ap, ◌∙◌}
use mathlib.Core.List.{List}
use lib.ListN.{length, length-map}
use Rattle.std.specs.declared.result.Result.TheVariants.{Ok}
use Rattle.model.specs.Network.{Network}
use Rattle.model.specs.Reading.{Walked, starts, table_walk, line_at, table}
use Rattle.file_records.specs.Walks.{count_of}
use Rattle.file_records.proofs.Endings.{count-whole}

pub lines_are : (net : Network) (s : List ℕ) (n : ℕ) → Ok n ≡ count_of (table_walk net s) → n ≡ length (table net s)
unfolding table
lines_are net s n e =
    let whole = count-whole (table_walk net s) n e in
    whole.2 ∙ ap (λ (w : Walked). length (starts w)) (sym whole.1) ∙ sym (length-map (starts (table_walk net s)) (line_at s))
