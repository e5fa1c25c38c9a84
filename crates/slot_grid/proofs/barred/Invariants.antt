-- `slot_grid::barred` meets its contract. The loop's invariant: the offsets passed are settled. Assumes nothing.
use Rattle.slot_grid.proofs.Filling.{BarredTo}
use Rattle.slot_grid.proofs.barred.Given as goal

abbrev pub invariant-loop-a : goal.invariant-loop-a
invariant-loop-a l = BarredTo l.bad l.g.slots l.b l.a l.acc
