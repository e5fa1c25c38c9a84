-- What making a table comes to where the files were read. Assumes nothing: these are definitions.
use Rattle.std.specs.Prelude.{ℕ, ◌≡◌, List, length}
use Rattle.arrayvec.specs.ArrayVec.{ArrayVec}
use Rattle.model.specs.Tests.{◌else◌}
use Rattle.model.specs.Network.{Request}
use Rattle.model.specs.Holding.{clash_fault}
use Rattle.model.specs.Lines.{lines_for}
use Rattle.model.specs.Jobs.{Result, keeps, writes, unless, short_fault, table_bytes}
use Rattle.model.specs.declared.Answer.{Answer}
use Rattle.model.specs.declared.Answer.TheVariants.{Made}
use Rattle.plan.specs.declared.Circuit.{Circuit}
use Rattle.plan.specs.Plan.{Booked}

-- the table
abbrev pub table_of : Request → List (List ℕ) → List ℕ
table_of q assigned = table_bytes (lines_for q assigned)

-- the first clash, or that the area is too short, or the table in it
abbrev pub making : Request → List (List ℕ) → List ℕ → Result
making q assigned old =
    let bytes = table_of q assigned in
    unless (clash_fault q assigned else short_fault (length bytes) old) old (writes old (Made (length bytes)) bytes)

-- r and the area new are that for whatever the plan and the masks stand for
pub record Makes (p : ArrayVec Circuit) (m old : List ℕ) (r : Answer) (new : List ℕ) : Type 0 where
  pub is : (q : Request) (assigned : List (List ℕ)) → Booked q assigned p m → keeps new r ≡ making q assigned old
