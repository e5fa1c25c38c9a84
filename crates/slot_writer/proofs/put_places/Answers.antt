-- `slot_writer::put_places` meets its contract. Each turn lays in one offset. Assumes nothing.
use Rattle.std.proofs.Common.{arith}
use Rattle.num_mask.proofs.Going.{first_low}
use Rattle.file_writer.proofs.Rest.{rest_start, item_room, item_more, items_end}
use Rattle.slot_writer.proofs.Files.{byte_of, joined-bytes}
use Rattle.slot_writer.proofs.put_places.Goals as goal

pub loop-offset-init : goal.loop-offset-init
loop-offset-init c = rw (c.into_iter-offset-iterator.ensures.into_iter_gives, c.offsets-offset-items.ensures, joined-bytes) (rest_start _ _ _ c.requires)

pub overflow_cast-offset : goal.overflow_cast-offset
overflow_cast-offset c = omega (arith, first_low _ c.in-Some.ensures.steps)

pub put-next-requires : goal.put-next-requires
put-next-requires c = item_room byte_of c.loop-offset.invariant c.in-Some.ensures.steps

pub loop-offset-preserved : goal.loop-offset-preserved
loop-offset-preserved c = item_more byte_of c.loop-offset.invariant c.in-Some.ensures.steps c.put-next.ensures

pub returns : goal.returns
returns c = items_end byte_of c.loop-offset.invariant c.in-None.ensures.steps.0
