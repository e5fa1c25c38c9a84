-- `num_mask::has` meets its contract. Assumes nothing.
use borrow.Author.Rules.{rules}
use Rattle.num_mask.specs.Bits.{bit}
use Rattle.num_mask.proofs.has.Goals as goal

pub returns : goal.returns
unfolding bit
returns c = search rules
