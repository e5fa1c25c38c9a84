-- `slot_grid::fill_rows` meets its contract. Assumes nothing.
use Rattle.std.proofs.Common.{[], map, get_or, arith, ◌∙◌}
use Rattle.std.proofs.Math.ListN.{length-set}
use Rattle.plan.specs.Plan.{shown, no_circuit}
use Rattle.plan.proofs.Laws.{circuit_at}
use Rattle.slot_grid.specs.Table.{RowFilled}
use Rattle.slot_grid.proofs.Filling.{set_more}
use Rattle.slot_grid.proofs.fill_rows.Goals as goal

pub loop-e-preserved : goal.loop-e-preserved
loop-e-preserved c =
    let x = c.args in
    let at = c.loop-e in
    let i = c.index-earlier-e in (
      length-set at.rows at.e c.pair.result ∙ at.invariant.0,
      set_more (λ k. RowFilled (shown x.own.now) (get_or (map shown x.earlier.now) k no_circuit)) at.rows at.e c.pair.result [] (omega arith) at.invariant.1
          (rw (circuit_at x.earlier.now at.e i.result c.loop-e-test.true i.is) at c.pair.ensures),
    )
