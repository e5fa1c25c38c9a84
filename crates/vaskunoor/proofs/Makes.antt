-- What the making of a table comes to in the words of the job. Assumes nothing.
use Prim.Native.Nat.{ℕ}
use mathlib.Core.Path.{◌≡◌, refl, sym, ap, ◌∙◌}
use mathlib.Core.List.{List}
use mathlib.Core.Option.{Option, none, some}
use lib.ListN.{length}
use Rattle.std.specs.declared.result.Result.TheVariants.{Ok, Err}
use Rattle.arrayvec.specs.ArrayVec.{ArrayVec}
use Rattle.model.specs.Tests.{◌else◌}
use Rattle.model.specs.Holding.{clash_fault}
use Rattle.model.specs.Reading.{request, assignment}
use Rattle.model.specs.Jobs.{Contract, make, Result, writes, unless, make_tables, request_fault, assignment_fault, short_fault}
use Rattle.model.specs.declared.Answer.{Answer}
use Rattle.model.specs.declared.Answer.TheVariants.{Made}
use Rattle.plan.specs.declared.Circuit.{Circuit}
use Rattle.plan_load.specs.Loaded.{LoadsBoth}
use Rattle.call_make.specs.Make.{table_of, Makes}
use Rattle.vaskunoor.proofs.Loading.{met, else_assoc, unread}

module _ (req asg : List ℕ) (p : ArrayVec Circuit) (m old : List ℕ) where
  abbrev assigned : List (List ℕ)
  assigned = assignment (request req) asg

  abbrev making-after : Option Answer → Result
  making-after o =
      let bytes = table_of (request req) assigned in
      unless (o else clash_fault (request req) assigned else short_fault (length bytes) old) old (writes old (Made (length bytes)) bytes)

  make_by : (o : Option Answer) → o ≡ unread req asg → make_tables req asg old ≡ making-after o
  unfolding make_tables
  make_by o e =
      let bytes = table_of (request req) assigned in
      ap (λ o. unless o old (writes old (Made (length bytes)) bytes))
      (else_assoc (request_fault req) (assignment_fault (request req) asg) (clash_fault (request req) assigned else short_fault (length bytes) old))
      ∙ ap making-after (sym e)

  pub make_unread : (a : Answer) → LoadsBoth req asg p m (Err a) → Contract (make req asg old) a old
  unfolding ◌else◌
  make_unread a g = met (make req asg old) (sym (make_by (some a) g.fault))

  pub make_told : LoadsBoth req asg p m (Ok tt) → (a : Answer) (new : List ℕ) → Makes p m old a new → Contract (make req asg old) a new
  unfolding ◌else◌
  make_told g a new is = met (make req asg old) (is.is _ _ (g.booked refl) ∙ sym (make_by none g.fault))
