-- `slot_writer::put_offsets` meets its contract: the head, and the offsets behind it. Assumes nothing.
use Rattle.std.proofs.Common.{length, arith, ap}
use Rattle.model.proofs.Written.{length_record}
use Rattle.model.specs.Sizes.{offsets_kind}
use Rattle.num_mask.specs.Bits.{offsets}
use Rattle.num_mask.proofs.Laws.{offsets_few}
use Rattle.file_writer.proofs.Files.{record_laid}
use Rattle.slot_writer.proofs.put_offsets.Goals as goal

pub overflow_cast-size : goal.overflow_cast-size
overflow_cast-size c = omega (arith, offsets_few c.args.mask)

pub put-next-requires : goal.put-next-requires
put-next-requires c = omega (arith, ap length c.head-head.ensures, length_record offsets_kind (offsets c.args.mask))

pub put_places-requires : goal.put_places-requires
put_places-requires c = omega (arith, ap length c.head-head.ensures, length_record offsets_kind (offsets c.args.mask))

pub returns : goal.returns
returns c = record_laid offsets_kind (offsets c.args.mask) (rw c.size.ensures at c.head-head.ensures) c.put-next.ensures c.put_places.ensures (omega (arith, length_record offsets_kind (offsets c.args.mask)))
