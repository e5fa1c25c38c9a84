-- `slot_writer::write_assignment` meets its contract. Each turn lays in one record, and the end record comes last. Assumes nothing.
use Rattle.std.proofs.Common.{arith, drop_of_length-le}
use Rattle.std.proofs.lemmas.List.{drop_more}
use Rattle.file_writer.proofs.Rest.{rest_start, none_left, item_room, item_more}
use Rattle.file_writer.proofs.Files.{end_room, end_laid}
use Rattle.slot_writer.specs.Files.{offsets_record}
use Rattle.slot_writer.proofs.Files.{assignment_is, assignment-length}
use Rattle.slot_writer.proofs.write_assignment.Goals as goal

pub loop-mask-init : goal.loop-mask-init
loop-mask-init c = rest_start _ _ _ (omega (arith, assignment-length c.args.masks.now))

pub put_offsets-at-requires : goal.put_offsets-at-requires
put_offsets-at-requires c = item_room offsets_record c.loop-mask.invariant (drop_more c.args.masks.now c.loop-mask.mask-index 0 (omega arith))

pub loop-mask-preserved : goal.loop-mask-preserved
loop-mask-preserved c = item_more offsets_record c.loop-mask.invariant (drop_more c.args.masks.now c.loop-mask.mask-index 0 (omega arith)) c.put_offsets-at.ensures

pub put_end-requires : goal.put_end-requires
put_end-requires c =
    end_room c.loop-mask.invariant (none_left offsets_record (drop_of_length-le c.args.masks.now (omega arith))) (omega (arith, assignment-length c.args.masks.now))

pub returns : goal.returns
returns c =
    rw assignment_is (end_laid c.loop-mask.invariant (none_left offsets_record (drop_of_length-le c.args.masks.now (omega arith))) c.put_end.ensures)
