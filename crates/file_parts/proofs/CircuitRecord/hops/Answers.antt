-- `CircuitRecord::hops` meets its contract. Assumes nothing.
use Rattle.file_parts.proofs.Parts.{hops_is}
use Rattle.file_parts.proofs.CircuitRecord.hops.Goals as goal

pub returns : goal.returns
returns c = hops_is c.args.self.now.here _ c.byte.ensures
