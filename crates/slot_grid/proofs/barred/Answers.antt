-- `slot_grid::barred` meets its contract. Assumes nothing.
use Rattle.std.proofs.Common.{sym, ◌∙◌}
use borrow.Author.Tests.{not-true, not-false}
use Rattle.std.proofs.lemmas.Bool.{not_from_true, not_from_false}
use Rattle.slot_grid.proofs.Filling.{barred-none, barred_skip, barred_mark}
use Rattle.slot_grid.proofs.barred.Goals as goal

pub loop-a-init : goal.loop-a-init
loop-a-init c = barred-none

pub loop-a-preserved-then-not-has : goal.loop-a-preserved-then-not-has
loop-a-preserved-then-not-has c = barred_skip c.loop-a.invariant (rw c.difference-x.ensures.is at (sym c.has.ensures ∙ not-true _ (not_from_false _ c.if-not-has.true)))

pub loop-a-preserved : goal.loop-a-preserved
loop-a-preserved c =
    barred_mark c.loop-a.invariant (rw c.difference-x.ensures.is at (sym c.has.ensures ∙ not-false _ (not_from_true _ c.if-not-has.false))) c.with-acc.ensures.marked
