-- What allocation comes to where the request was read. Assumes nothing: these are definitions.
use Rattle.std.specs.Prelude.{ℕ, ◌≡◌, List}
use Rattle.std.proofs.Math.Option.{none}
use Rattle.model.specs.Network.{Request}
use Rattle.model.specs.Search.{reply, whole}
use Rattle.model.specs.Reading.{request}
use Rattle.model.specs.Jobs.{Result, keeps, unless, settled, request_fault, short_fault, assignment_size}
use Rattle.model.specs.declared.Answer.{Answer}
use Rattle.arrayvec.specs.ArrayVec.{ArrayVec}
use Rattle.plan.specs.declared.Circuit.{Circuit}
use Rattle.plan.specs.Plan.{Stands}

-- the plan stands for a request whose file has no fault
pub record Loaded (p : ArrayVec Circuit) : Type 0 where
  pub req : List ℕ
  pub fine : request_fault req ≡ none
  pub stands : Stands (request req) p

-- that the area is too short, or what the search comes to
abbrev pub allotting : Request → ℕ → List ℕ → Result
allotting q budget old = unless (short_fault (assignment_size q) old) old (settled budget old (reply budget (whole q)))

-- r and the area new are that for whatever request the plan stands for
pub record Allots (p : ArrayVec Circuit) (budget : ℕ) (old : List ℕ) (r : Answer) (new : List ℕ) : Type 0 where
  pub is : (q : Request) → Stands q p → keeps new r ≡ allotting q budget old
