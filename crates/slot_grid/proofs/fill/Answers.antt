-- `slot_grid::fill` meets its contract. Assumes nothing.
use Rattle.std.proofs.Common.{[], map, take, length, ap, arith, ◌∙◌}
use Rattle.std.proofs.Math.ListN.{length-set}
use Rattle.plan.specs.Plan.{shown, circuit_in}
use Rattle.plan.proofs.Laws.{circuit_at}
use Rattle.slot_grid.specs.Table.{RowsFilled}
use Rattle.slot_grid.proofs.Filling.{set_more, grid_filled}
use Rattle.slot_grid.proofs.fill.Goals as goal

pub loop-c-preserved : goal.loop-c-preserved
loop-c-preserved c =
    let p = c.args.p.now in
    let at = c.loop-c in
    let i = c.own-item in (
      length-set at.grid at.c _ ∙ at.invariant.0,
      set_more (λ k. RowsFilled (circuit_in p k) (map shown (take k p.items))) at.grid at.c _ [] (omega arith) at.invariant.1
          (rw (circuit_at p.items at.c i.result (rw c.deref-own-items.ensures.0 at c.loop-c-test.true) (rw c.deref-own-items.ensures.0 at i.is), c.deref.ensures.0) at c.fill_rows.ensures),
    )

pub returns : goal.returns
returns c = grid_filled c.args.p.now c.loop-c.grid (λ k h. c.loop-c.invariant.1 k (omega (arith, ap length c.deref-own-items.ensures.0)))
