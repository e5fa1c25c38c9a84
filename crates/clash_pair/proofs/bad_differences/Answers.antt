-- `clash_pair::bad_differences` meets its contract. The loop's invariant: the differences of the uses passed are marked. Assumes nothing.
use mathlib.Core.Path.{◌∙◌}
use Rattle.std.proofs.lemmas.List.{take_all}
use Rattle.clash_pair.proofs.Marking.{all_none, all_more, all_done}
use Rattle.clash_pair.proofs.bad_differences.Goals as goal

pub loop-u-init : goal.loop-u-init
loop-u-init c = all_none

pub loop-u-preserved : goal.loop-u-preserved
loop-u-preserved c = all_more _ _ _ c.loop-u-test.true c.loop-u.invariant c.mark_use-acc.ensures

pub returns : goal.returns
returns c = all_done _ _ _ (rw (take_all _ _ c.loop-u-test.false ∙ c.deref-u-items.ensures.0) at c.loop-u.invariant)
