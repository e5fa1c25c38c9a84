-- `call_verify::verify` meets its contract. Assumes nothing.
use Rattle.std.proofs.Common.{◌∙◌}
use Rattle.plan_refusal.proofs.Firsts.{handed_on}
use Rattle.call_verify.proofs.Behind.{clash_found, lines_found}
use Rattle.call_verify.proofs.verify.Goals as goal

pub returns-in_err-first_clash : goal.returns-in_err-first_clash
returns-in_err-first_clash c = λ q assigned f. handed_on _ _ c.from_residual.ensures.1 ∙ clash_found _ _ _ _ _ c.first_clash.ensures _ c.in_err-first_clash.was q assigned f

pub invariant_of-table : goal.invariant_of-table
invariant_of-table c = record { tabled = c.requires; chained = c.link.ensures }

pub returns : goal.returns
returns c = lines_found _ _ _ _ _ c.first_clash.ensures _ c.in_ok-first_clash.was c.check.ensures
