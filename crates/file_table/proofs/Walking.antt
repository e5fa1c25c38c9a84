-- The walk over the lines of a table file. Assumes nothing.
use Prim.Native.Nat.{ℕ}
use mathlib.Core.Bool.{false}
use mathlib.Core.List.{List}
use borrow.Author.Tests.{ltb-false, leb-false}
use lib.ListN.{length}
use Rattle.model.specs.Sizes.{lines_most, line_kind}
use Rattle.model.specs.Network.{Network}
use Rattle.model.specs.Reading.{line_verdict, table_step}
use Rattle.model.proofs.Readers.{line_tests_lem}
use Rattle.file_records.proofs.Bounds.{Bounded, bounded_by}

pub bounded : (net : Network) (s : List ℕ) → Bounded lines_most (table_step net s) (length s)
unfolding table_step
bounded net s =
    bounded_by lines_most line_kind (λ _. false) (line_verdict net s) s
    (λ n p fine. let t = line_tests_lem net s n p fine in (leb-false _ _ t.0, ltb-false _ _ t.1.1.0))
