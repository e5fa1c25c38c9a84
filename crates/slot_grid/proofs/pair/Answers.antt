-- `slot_grid::pair` meets its contract. Assumes nothing.
use Rattle.plan.specs.Plan.{shown}
use Rattle.slot_grid.proofs.Filling.{pair_filled}
use Rattle.slot_grid.proofs.pair.Goals as goal

pub returns : goal.returns
returns c = let x = c.args in pair_filled (shown x.own.now) (shown x.other.now) x.own.now.cycle.fits.low c.common-g.ensures c.bad_differences-bad.ensures c.row.ensures
