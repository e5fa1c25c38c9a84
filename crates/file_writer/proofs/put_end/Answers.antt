-- `file_writer::put_end` meets its contract: a head without a body. Assumes nothing.
use Rattle.std.proofs.Common.{rules}
use Rattle.model.specs.Bytes.{record_of}
use Rattle.file_writer.proofs.put_end.Goals as goal

pub returns : goal.returns
unfolding record_of
returns c = search rules
