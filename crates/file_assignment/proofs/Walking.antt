-- The steps over the offsets records stay in their bounds. Assumes nothing.
use Prim.Native.Nat.{ℕ, ◌≤◌, ◌<◌}
use mathlib.Core.List.{List}
use native.Mathlib.Omega.{arith}
use borrow.Author.Tests.{ltb-false, leb-false}
use lib.ListN.{length}
use Rattle.model.specs.Sizes.{circuits_most, offsets_kind}
use Rattle.model.specs.Network.{Request}
use Rattle.model.specs.Reading.{offsets_verdict, assignment_step}
use Rattle.model.proofs.Readers.{early, offsets_tests_lem}
use Rattle.file_records.proofs.Bounds.{Bounded, bounded_by}

pub bounded : (q : Request) (s : List ℕ) → length q.circuits ≤ circuits_most → Bounded circuits_most (assignment_step q s) (length s)
unfolding assignment_step
bounded q s few =
    bounded_by circuits_most offsets_kind (early q s) (offsets_verdict q s) s
    (λ k p fine.
    let t = (offsets_tests_lem q s k p fine).0 in
    let l : k < length q.circuits = leb-false _ _ t.0 in
    (omega arith, ltb-false _ _ t.1.1.1.0))
