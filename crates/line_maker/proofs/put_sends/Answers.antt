-- `line_maker::put_sends` meets its contract. Each turn lays in one line. Assumes nothing.
use Rattle.std.proofs.Common.{arith}
use Rattle.std.proofs.lemmas.List.{nil_from_length}
use Rattle.plan.specs.Plan.{shown}
use Rattle.file_writer.proofs.Rest.{rest_start, item_room, item_more, items_end}
use Rattle.line_maker.specs.Files.{send_bytes, offset_bytes}
use Rattle.line_maker.proofs.Sizes.{send_bytes-length}
use Rattle.line_maker.proofs.put_sends.Goals as goal

pub loop-send-init : goal.loop-send-init
unfolding offset_bytes
loop-send-init c = rw c.into_iter-send-iterator.ensures.into_iter_gives.0 (rest_start _ _ _ c.requires.room)

pub put_line-next-requires : goal.put_line-next-requires
put_line-next-requires c =
    let x = shown c.args.circuit.now in
    omega (arith, item_room (send_bytes x c.args.offset) c.loop-send.invariant c.in-Some.ensures.steps, send_bytes-length x c.args.offset c.in-Some.send.now)

pub loop-send-preserved : goal.loop-send-preserved
loop-send-preserved c =
    item_more (send_bytes (shown c.args.circuit.now) c.args.offset) c.loop-send.invariant c.in-Some.ensures.steps (rw c.line_of.ensures at c.put_line-next.ensures)

pub returns : goal.returns
returns c = items_end (send_bytes (shown c.args.circuit.now) c.args.offset) c.loop-send.invariant (nil_from_length _ c.in-None.ensures.steps.0)
