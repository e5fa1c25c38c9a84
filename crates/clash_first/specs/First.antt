-- Where a plan first clashes. Assumes nothing: these are definitions.
use Rattle.std.specs.Prelude.{ℕ, ◌≡◌, List}
use Rattle.arrayvec.specs.ArrayVec.{ArrayVec}
use Rattle.model.specs.Network.{Request}
use Rattle.model.specs.Holding.{clash_fault}
use Rattle.plan.specs.declared.Circuit.{Circuit}
use Rattle.plan.specs.Plan.{Booked}
use Rattle.plan_refusal.specs.Found.{Tested, found}

-- r tells the first clash of what the plan and the masks stand for
abbrev pub FirstIs : ArrayVec Circuit → List ℕ → Tested → Type 0
FirstIs p m r = (q : Request) (assigned : List (List ℕ)) → Booked q assigned p m → found r ≡ clash_fault q assigned
