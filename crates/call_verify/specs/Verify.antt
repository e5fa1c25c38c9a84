-- What speaks against files that were read. Assumes nothing: these are definitions.
use Rattle.std.specs.Prelude.{ℕ, ◌≡◌, List}
use Rattle.arrayvec.specs.ArrayVec.{ArrayVec}
use Rattle.model.specs.Tests.{◌else◌}
use Rattle.model.specs.Network.{Request}
use Rattle.model.specs.Holding.{clash_fault}
use Rattle.model.specs.Lines.{lines_fault}
use Rattle.model.specs.Reading.{table}
use Rattle.plan.specs.declared.Circuit.{Circuit}
use Rattle.plan_refusal.specs.Found.{Tested, found}
use Rattle.line_check.specs.Checks.{Facts}

-- r is the first clash, and where there is none the first fault of the lines
abbrev pub FaultIs : ArrayVec Circuit → (m t : List ℕ) (lines : ℕ) → Tested → Type 0
FaultIs p m t lines r =
    (q : Request) (assigned : List (List ℕ)) → Facts q assigned p m t lines → found r ≡ (clash_fault q assigned else lines_fault q assigned (table q.network t))
