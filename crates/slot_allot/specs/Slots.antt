-- What is answered about the slots of a plan, whatever request it stands for. Assumes nothing: these are definitions.
use Rattle.std.specs.Prelude.{ℕ, ◌≡◌, List}
use Rattle.arrayvec.specs.ArrayVec.{ArrayVec}
use Rattle.model.specs.Network.{Request}
use Rattle.model.specs.Search.{reply, whole}
use Rattle.model.specs.Jobs.{assignment_size}
use Rattle.plan.specs.declared.Circuit.{Circuit}
use Rattle.plan.specs.Plan.{circuits_in, Stands}
use Rattle.slot_search.specs.Code.{Walked, Replies}

-- the bytes of its assignment
abbrev pub SizeFor : (p : ArrayVec Circuit) → ℕ → Type 0
SizeFor p r = (q : Request) → Stands q p → r ≡ assignment_size q

-- the reply to the search for its slots
abbrev pub SlotsFor : (p : ArrayVec Circuit) (budget : ℕ) (masks : List ℕ) → Walked → Type 0
SlotsFor p budget masks r = (q : Request) → Stands q p → Replies (reply budget (whole q)) (circuits_in p) masks r
