-- `clash_pair::pair_clashes` meets its contract. Assumes nothing.
use mathlib.Core.Path.{sym, ◌∙◌}
use Rattle.clash_pair.proofs.Booked.{pair_is, pair_never}
use Rattle.plan.specs.Plan.{shown}
use Rattle.clash_pair.proofs.pair_clashes.Goals as goal

pub returns-then-bad-eq0 : goal.returns-then-bad-eq0
returns-then-bad-eq0 c = sym (pair_never (shown c.args.a.now.circuit.now) (shown c.args.b.now.circuit.now) _ _ c.args.a.now.circuit.now.cycle.fits.low c.common-g.ensures c.bad_differences-bad.ensures c.if-bad-eq0.true)

pub returns : goal.returns
returns c = c.hits.ensures ∙ pair_is (shown c.args.a.now.circuit.now) (shown c.args.b.now.circuit.now) _ _ c.args.a.now.circuit.now.cycle.fits.low c.common-g.ensures c.bad_differences-bad.ensures
