-- `line_record::record_of` meets its contract. Assumes nothing.
use Rattle.std.proofs.Common.{rules}
use Rattle.model.specs.Bytes.{record_of}
use Rattle.line_record.proofs.record_of.Goals as goal

pub returns : goal.returns
unfolding record_of
returns c = rw (c.head.ensures, c.to_le_bytes.ensures, c.to_le_bytes-2.ensures) (search rules)
