-- What is held of files that were loaded, and how one that has a fault is refused. Assumes nothing: these are definitions.
use Rattle.std.specs.Prelude.{ℕ, ◌<◌, ◌≡◌, List, Result, Ok, Err}
use Rattle.std.proofs.Math.Option.{none, some}
use Rattle.arrayvec.specs.ArrayVec.{ArrayVec}
use Rattle.model.specs.Sizes.{detail_end}
use Rattle.model.specs.Tests.{◌else◌}
use Rattle.model.specs.Reading.{request, assignment}
use Rattle.model.specs.Jobs.{request_fault, assignment_fault}
use Rattle.model.specs.declared.Damage.{Damage}
use Rattle.model.specs.declared.Answer.{Answer}
use Rattle.model.specs.declared.Answer.TheVariants.{Damaged}
use Rattle.file_parts.specs.Parts.{Starts}
use Rattle.plan.specs.declared.Circuit.{Circuit}
use Rattle.plan.specs.Plan.{Stands, Booked, Slotted}
use Rattle.plan_refusal.specs.Found.{Tested, found}

-- the byte that it names fits 32 bits
pub record ByteFits (d : Damage) : Type 0 where
  pub small : d.byte < detail_end

-- what is told of the file with this number, whose reading ended so
abbrev pub damage_of : {T : Type 0} → ℕ → Result T Damage → Result T Answer
damage_of file (Ok read) = Ok read
damage_of file (Err d) = Err (Damaged file d.fault d.byte)

-- the request file req was read: r tells its fault, or where its circuits' records start, and then the plan stands for it
abbrev pub Opens : (req : List ℕ) (p : ArrayVec Circuit) (r : Result (ArrayVec ℕ) Answer) → Type 0
Opens req p (Ok at) = Starts req at.items × Stands (request req) p
Opens req p (Err a) = request_fault req ≡ some a

-- r tells its fault
pub record Loads (req : List ℕ) (p : ArrayVec Circuit) (r : Tested) : Type 0 where
  pub fault : found r ≡ request_fault req
  pub stands : found r ≡ none → Stands (request req) p

-- r tells the first fault of a request and its assignment; where there is none, plan and masks stand for them
pub record LoadsBoth (req asg : List ℕ) (p : ArrayVec Circuit) (m : List ℕ) (r : Tested) : Type 0 where
  pub fault : found r ≡ (request_fault req else assignment_fault (request req) asg)
  pub booked : found r ≡ none → Booked (request req) (assignment (request req) asg) p m
  pub slotted : found r ≡ none → Slotted p m
