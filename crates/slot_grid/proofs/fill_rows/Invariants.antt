-- `slot_grid::fill_rows` meets its contract. The loop's invariant: the rows passed are filled in. Assumes nothing.
use Rattle.std.proofs.Common.{ℕ, ◌<◌, [], length, get_or, map, ◌≡◌}
use Rattle.model.specs.Sizes.{circuits_most}
use Rattle.plan.specs.Plan.{shown, no_circuit}
use Rattle.slot_grid.specs.Table.{RowFilled}
use Rattle.slot_grid.proofs.fill_rows.Given as goal

abbrev pub invariant-loop-e : goal.invariant-loop-e
invariant-loop-e l =
    (length l.rows ≡ circuits_most)
    × ((k : ℕ) → k < l.e → RowFilled (shown l.own) (get_or (map shown l.earlier) k no_circuit) (get_or l.rows k []))
