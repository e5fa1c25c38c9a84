-- `line_maker::put_circuit` meets its contract. Each turn lays in the lines of one offset. Assumes nothing.
use Rattle.num_mask.proofs.Going.{first_low}
use Rattle.plan.specs.Plan.{shown}
use Rattle.file_writer.proofs.Rest.{rest_start, item_room, item_more, items_end}
use Rattle.line_maker.specs.Files.{offset_bytes, circuit_bytes}
use Rattle.line_maker.proofs.put_circuit.Goals as goal

pub loop-offset-init : goal.loop-offset-init
unfolding circuit_bytes
loop-offset-init c = rw (c.into_iter-offset-iterator.ensures.into_iter_gives, c.offsets-offset-items.ensures) (rest_start _ _ _ c.requires)

pub put_sends-next-requires : goal.put_sends-next-requires
put_sends-next-requires c = record {
  low = first_low _ c.in-Some.ensures.steps;
  room = item_room (offset_bytes (shown c.args.b.now.circuit.now)) c.loop-offset.invariant c.in-Some.ensures.steps;
}

pub loop-offset-preserved : goal.loop-offset-preserved
loop-offset-preserved c = item_more (offset_bytes (shown c.args.b.now.circuit.now)) c.loop-offset.invariant c.in-Some.ensures.steps c.put_sends-next.ensures

pub returns : goal.returns
returns c = items_end (offset_bytes (shown c.args.b.now.circuit.now)) c.loop-offset.invariant c.in-None.ensures.steps.0
