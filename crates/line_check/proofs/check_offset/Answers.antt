-- `line_check::check_offset` meets its contract. The loop's invariant: the hops so far have no fault. Assumes nothing.
use Rattle.std.proofs.Common.{◌∙◌}
use Rattle.plan_refusal.proofs.Firsts.{clear_found, clear_all}
use Rattle.line_check.specs.Checks.{offset_fault}
use Rattle.plan_refusal.proofs.Firsts.{handed_on}
use Rattle.line_check.proofs.check_offset.Goals as goal

pub returns-in_err-judge : goal.returns-in_err-judge
unfolding offset_fault
returns-in_err-judge c =
    handed_on _ _ c.from_residual.ensures.1
    ∙ clear_found _ c.loop-hop.hop c.loop-hop.invariant c.judge.result (rw c.deref-send-items.ensures.0 at c.judge.ensures) _ (rw c.deref-send-items.ensures.0 at c.loop-hop-test.true) _ c.in_err-judge.was

pub returns : goal.returns
unfolding offset_fault
returns c = clear_all _ _ c.loop-hop.hop (rw c.deref-send-items.ensures.0 at c.loop-hop-test.false) c.loop-hop.invariant
