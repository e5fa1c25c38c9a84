-- `line_maker::write_table` meets its contract. Each turn lays in the lines of one circuit, and the end record comes last. Assumes nothing.
use Rattle.std.proofs.Common.{arith}
use Rattle.file_writer.proofs.Lists.{left_none}
use Rattle.file_writer.proofs.Rest.{rest_start, part_room, part_more}
use Rattle.file_writer.proofs.Files.{end_room, end_laid}
use Rattle.line_maker.proofs.Sizes.{table-length}
use Rattle.line_maker.proofs.Tables.{table_is}
use Rattle.line_maker.proofs.write_table.Goals as goal

pub loop-c-init : goal.loop-c-init
loop-c-init c = rest_start _ _ _ (omega (arith, table-length c.args.b.now.plan.now c.args.b.now.masks.now))

pub put_circuit-at-requires : goal.put_circuit-at-requires
put_circuit-at-requires c = rw (c.of.ensures.circuit, c.of.ensures.offsets) (part_room _ _ c.loop-c.c c.loop-c.invariant (omega arith))

pub loop-c-preserved : goal.loop-c-preserved
loop-c-preserved c = part_more _ _ c.loop-c.c c.loop-c.invariant (omega arith) (rw (c.of.ensures.circuit, c.of.ensures.offsets) at c.put_circuit-at.ensures)

pub put_end-requires : goal.put_end-requires
put_end-requires c = end_room c.loop-c.invariant (left_none _ _ _ (omega arith)) (omega (arith, table-length c.args.b.now.plan.now c.args.b.now.masks.now))

pub returns : goal.returns
returns c = record { wrote = λ q assigned b. rw (table_is b) (end_laid c.loop-c.invariant (left_none _ _ _ (omega arith)) c.put_end.ensures) }
