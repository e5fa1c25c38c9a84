-- `num_mask::size` meets its contract. Assumes nothing.
use mathlib.Core.Path.{sym}
use Rattle.num_mask.proofs.Laws.{offsets-length}
use Rattle.num_mask.proofs.size.Goals as goal

pub returns : goal.returns
returns c = sym (offsets-length c.args.mask c.ranges.mask.fits)
