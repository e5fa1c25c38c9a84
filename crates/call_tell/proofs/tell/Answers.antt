-- `call_tell::tell` meets its contract. Each turn lays in one detail. Assumes nothing.
use Rattle.std.proofs.Common.{arith, drop_of_length-le}
use Rattle.std.proofs.lemmas.List.{drop_more}
use Rattle.model.specs.Tests.{joined}
use Rattle.file_writer.proofs.Rest.{rest_start, item_room, item_more, items_end}
use Rattle.call_tell.specs.Telling.{long}
use Rattle.call_tell.proofs.Telling.{numbers, details_told}
use Rattle.call_tell.proofs.tell.Goals as goal

pub loop-number-init : goal.loop-number-init
unfolding joined
loop-number-init c = rest_start _ _ _ (omega arith)

pub put-at-requires : goal.put-at-requires
put-at-requires c =
    rw c.to_le_bytes.ensures (item_room long c.loop-number.invariant (drop_more (numbers c.from-said.result) c.loop-number.number-index 0 (omega arith)))

pub loop-number-preserved : goal.loop-number-preserved
loop-number-preserved c =
    item_more long c.loop-number.invariant (drop_more (numbers c.from-said.result) c.loop-number.number-index 0 (omega arith))
    (rw c.to_le_bytes.ensures at c.put-at.ensures)

pub returns-clause-bytes : goal.returns-clause-bytes
returns-clause-bytes c =
    details_told c.from-said.result c.args.answer c.from-said.ensures c.requires
    (items_end long c.loop-number.invariant (drop_of_length-le (numbers c.from-said.result) (omega arith)))
