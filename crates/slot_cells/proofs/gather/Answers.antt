-- `slot_cells::gather` meets its contract. Assumes nothing.
use Rattle.std.proofs.Common.{◌<◌, length, get_or, refl, rules, tests}
use Rattle.std.specs.Int.Bits.{bit_or}
use Rattle.std.specs.declared.option.Option.TheVariants.{Some}
use Rattle.std.proofs.lemmas.Iterator.Consumers.{YieldsList-turn, fold_from_yields_List}
use Rattle.model.specs.Sizes.{cycle_most}
use Rattle.num_mask.proofs.Going.{road, offset_low}
use Rattle.slot_cells.proofs.gather.Goals as goal

-- each offset that comes is inside the row
pub fold-requires-clause-callable : goal.fold-requires-clause-callable
fold-requires-clause-callable c = record {
  at = λ xs t q x u y f k.
      let turn = YieldsList-turn (road c.args.m c.offsets.ensures) xs t y (Some x) u x refl k in
      let low : x < cycle_most = rw turn.1 (offset_low c.args.m (length xs) x turn.0) in
      search rules;
}

pub returns : goal.returns
returns c =
    fold_from_yields_List _ (λ y a. bit_or y (get_or c.args.row.now a 0)) c.args.from c.fold.result c.fold.ensures.ran
    (road c.args.m c.offsets.ensures) (λ y a z q k. search (rules, tests))
