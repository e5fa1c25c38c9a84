-- `vaskunoor::assignment_tested` meets its contract. Assumes nothing.
use Rattle.vaskunoor.proofs.Loading.{check_unread, check_told}
use Rattle.vaskunoor.proofs.assignment_tested.Goals as goal

pub returns-in_err-load_both : goal.returns-in_err-load_both
returns-in_err-load_both c = check_unread _ _ _ c.in_err-load_both.field-0.0 c.from_residual.ensures.1 c.in_err-load_both.ensures.fault

pub returns : goal.returns
returns c = check_told _ _ _ _ _ c.in_ok-load_both.ensures c.first_clash.ensures
