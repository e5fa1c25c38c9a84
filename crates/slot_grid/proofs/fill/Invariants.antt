-- `slot_grid::fill` meets its contract. The loop's invariant: the circuits passed are filled in. Assumes nothing.
use Rattle.std.proofs.Common.{ℕ, ◌<◌, [], length, get_or, map, take, ◌≡◌}
use Rattle.model.specs.Sizes.{circuits_most}
use Rattle.plan.specs.Plan.{shown, circuit_in}
use Rattle.slot_grid.specs.Table.{RowsFilled}
use Rattle.slot_grid.proofs.fill.Given as goal

abbrev pub invariant-loop-c : goal.invariant-loop-c
invariant-loop-c l =
    (length l.grid ≡ circuits_most)
    × ((k : ℕ) → k < l.c → RowsFilled (circuit_in l.p k) (map shown (take k l.p.items)) (get_or l.grid k []))
