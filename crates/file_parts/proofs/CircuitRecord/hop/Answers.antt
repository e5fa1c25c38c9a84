-- `CircuitRecord::hop` meets its contract. Assumes nothing.
use Rattle.file_parts.proofs.Parts.{hop_is}
use Rattle.file_parts.proofs.CircuitRecord.hop.Goals as goal

pub returns : goal.returns
returns c = hop_is c.args.self.now.here _ _ c.requires c.hop.ensures
