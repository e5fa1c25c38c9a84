-- What is told of a request and an assignment that were loaded and looked through for a clash, in the words of the assignment check. Assumes
-- nothing.
use Prim.Native.Nat.{ℕ}
use mathlib.Core.Path.{◌≡◌, refl, sym, ap, ◌∙◌}
use mathlib.Core.List.{List}
use mathlib.Core.Option.{Option, none, some}
use Rattle.std.specs.Result.{IsErrAnd}
use Rattle.std.specs.declared.result.Result.TheVariants.{Ok}
use Rattle.arrayvec.specs.ArrayVec.{ArrayVec}
use Rattle.model.specs.Tests.{◌else◌, or_else}
use Rattle.model.specs.Holding.{clash_fault}
use Rattle.model.specs.Reading.{request, assignment}
use Rattle.model.specs.Jobs.{Call, result_of, Result, keeps, Contract, check_assignment, request_fault, assignment_fault}
use Rattle.model.specs.declared.Answer.{Answer}
use Rattle.model.specs.declared.Answer.TheVariants.{Done}
use Rattle.plan.specs.declared.Circuit.{Circuit}
use Rattle.plan_refusal.specs.Found.{Tested, found}
use Rattle.plan_refusal.proofs.Firsts.{handed_on}
use Rattle.plan_load.specs.Loaded.{LoadsBoth}
use Rattle.clash_first.specs.First.{FirstIs}

-- an answer and an area that are a call's result
pub met : (call : Call) {a : Answer} {out : List ℕ} → keeps out a ≡ result_of call → Contract call a out
met call e = record { answer = ap (λ (r : Result). r.answer) e; area = ap (λ (r : Result). r.area) e }

pub else_assoc : {A : Type 0} (f g h : Option A) → f else g else h ≡ (f else g) else h
unfolding ◌else◌
else_assoc none g h = refl
else_assoc (some x) g h = refl

-- what speaks against a request and an assignment, and before it what speaks against their files
abbrev refusing : List ℕ → List ℕ → Option Answer
refusing req asg = request_fault req else assignment_fault (request req) asg else clash_fault (request req) (assignment (request req) asg)

abbrev pub unread : List ℕ → List ℕ → Option Answer
unread req asg = request_fault req else assignment_fault (request req) asg

module _ (req asg : List ℕ) where
  refusing_by : (o : Option Answer) → o ≡ unread req asg → refusing req asg ≡ (o else clash_fault (request req) (assignment (request req) asg))
  refusing_by o e =
      let clash : Option Answer = clash_fault (request req) (assignment (request req) asg) in
      else_assoc (request_fault req) (assignment_fault (request req) asg) clash ∙ ap (λ (u : Option Answer). u else clash) (sym e)

  pub check_unread : (r : Tested) (a : Answer) → IsErrAnd r (λ b. b ≡ a) → some a ≡ unread req asg → or_else (found r) Done ≡ check_assignment req asg
  unfolding check_assignment ◌else◌
  check_unread r a h e = ap (λ (o : Option Answer). or_else o Done) (handed_on r a h ∙ sym (refusing_by (some a) e))

  pub check_told : (p : ArrayVec Circuit) (m : List ℕ) (y : Tested) → LoadsBoth req asg p m (Ok tt) → FirstIs p m y → or_else (found y) Done ≡ check_assignment req asg
  unfolding check_assignment ◌else◌
  check_told p m y g is = ap (λ (o : Option Answer). or_else o Done) (is (request req) (assignment (request req) asg) (g.booked refl) ∙ sym (refusing_by none g.fault))
