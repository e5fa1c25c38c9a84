-- `slot_allot::allot` meets its contract: what `enter` leaves of the budget, and the definition's reply. Assumes nothing.
use Rattle.std.proofs.Common.{ap, ◌∙◌}
use Rattle.std.specs.declared.result.Result.TheVariants.{Ok}
use Rattle.slot_search.proofs.EndsLaws.{is_over}
use Rattle.slot_allot.proofs.ReplyLaws.{rest_le, replied}
use Rattle.slot_allot.proofs.allot.Goals as goal

pub returns-in_err-left : goal.returns-in_err-left
returns-in_err-left c =
    let x = c.args.problem.now in
    rw (is_over c.from_residual.ensures.0) (replied x.grid.now x.plan.now c.in_err-left.was c.enter.ensures)

pub overflow_sub-result : goal.overflow_sub-result
overflow_sub-result c = rest_le (c.in_ok-left.was ∙ ap Ok c.in-Found.is) c.enter.ensures

pub overflow_sub-result-in-NoRoom : goal.overflow_sub-result-in-NoRoom
overflow_sub-result-in-NoRoom c = rest_le (c.in_ok-left.was ∙ ap Ok c.in-NoRoom.is) c.enter.ensures

pub returns-in-Found : goal.returns-in-Found
returns-in-Found c =
    let x = c.args.problem.now in
    replied x.grid.now x.plan.now (c.in_ok-left.was ∙ ap Ok c.in-Found.is) c.enter.ensures

pub returns-in-NoRoom : goal.returns-in-NoRoom
returns-in-NoRoom c =
    let x = c.args.problem.now in
    replied x.grid.now x.plan.now (c.in_ok-left.was ∙ ap Ok c.in-NoRoom.is) c.enter.ensures
