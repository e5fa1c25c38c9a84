-- `slot_grid::row` meets its contract. The loop's invariant: the entries passed are there. Assumes nothing.
use Rattle.std.proofs.Common.{ℕ, ◌<◌, length, get_or, ◌≡◌}
use Rattle.model.specs.Sizes.{cycle_most}
use Rattle.slot_grid.specs.Table.{Barred}
use Rattle.slot_grid.proofs.row.Given as goal

abbrev pub invariant-loop-b : goal.invariant-loop-b
invariant-loop-b l = (length l.entries ≡ cycle_most) × ((k : ℕ) → k < l.b → Barred l.bad l.g.slots l.d.slots k (get_or l.entries k 0))
