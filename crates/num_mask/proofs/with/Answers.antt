-- `num_mask::with` meets its contract. Assumes nothing.
use Rattle.num_mask.proofs.Laws.{offsets_more, offsets_marked}
use Rattle.num_mask.proofs.with.Goals as goal

pub returns : goal.returns
returns c = record { marked = offsets_marked c.args.mask c.args.i c.requires; above = offsets_more }
