-- `slot_grid::row` meets its contract. Assumes nothing.
use Rattle.std.proofs.Common.{arith, ◌∙◌}
use Rattle.std.proofs.Math.ListN.{length-set}
use Rattle.slot_grid.specs.Table.{Barred}
use Rattle.slot_grid.proofs.Filling.{set_more}
use Rattle.slot_grid.proofs.row.Goals as goal

pub loop-b-preserved : goal.loop-b-preserved
loop-b-preserved c =
    let x = c.args in
    let at = c.loop-b in
    (length-set at.entries at.b c.barred.result ∙ at.invariant.0, set_more (Barred x.bad x.g.slots x.d.slots) at.entries at.b c.barred.result 0 (omega arith) at.invariant.1 c.barred.ensures)
