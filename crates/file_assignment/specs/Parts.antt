-- The tests on an offsets record's numbers, and where a circuit's record stands. Assumes nothing: these are definitions.
use Rattle.std.specs.Prelude.{ℕ, ◌<◌, ◌≡◌, List, length, get_or, drop}
use Rattle.std.proofs.Math.Option.{none}
use Rattle.model.specs.Tests.{neg}
use Rattle.model.specs.Network.{Request}
use Rattle.model.specs.Reading.{Verdict, judge, starts, offsets_rows, assignment_walk}
use Rattle.model.specs.Jobs.{assignment_fault}

-- the tests on an offsets record's numbers behind the one on how many stand before it
unfoldable pub offsets_numbers : (have len demand : ℕ) → Verdict
unfolding neg
offsets_numbers have len demand = judge (drop 1 (offsets_rows 0 0 have len demand))

-- the file s has no fault, and circuit c's offsets record starts at byte a of it
pub record BookedAt (q : Request) (s : List ℕ) (c a : ℕ) : Type 0 where
  pub whole : assignment_fault q s ≡ none
  pub low : c < length q.circuits
  pub is : a ≡ get_or (starts (assignment_walk q s)) c 0
