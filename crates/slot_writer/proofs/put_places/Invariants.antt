-- `slot_writer::put_places` meets its contract. Each turn lays in one offset. Assumes nothing.
use Rattle.std.proofs.Common.{map}
use Rattle.model.specs.Tests.{joined}
use Rattle.num_mask.specs.Bits.{offsets}
use Rattle.file_writer.proofs.Rest.{Rest}
use Rattle.slot_writer.proofs.Files.{byte_of}
use Rattle.slot_writer.proofs.put_places.Given as goal

abbrev pub invariant-loop-offset : goal.invariant-loop-offset
invariant-loop-offset l = Rest l.initial.out l.at (offsets l.mask) l.out l.next (joined (map byte_of (offsets l.offset-iterator.left)))
