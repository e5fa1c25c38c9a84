-- `num_mask::lowest` meets its contract. Assumes nothing.
use Rattle.num_mask.proofs.Laws.{offsets-first}
use Rattle.num_mask.proofs.lowest.Goals as goal

pub returns : goal.returns
returns c = offsets-first c.args.mask c.ranges.mask.fits c.requires
