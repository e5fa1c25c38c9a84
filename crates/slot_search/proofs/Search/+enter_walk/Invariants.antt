-- The measures and the invariant of the cycle of calls {enter, walk}. The measure of a call: 64 for each circuit that is left, and one for
-- each cell of the present one. The loop of `walk`: the invariant is `Turn` of LoopLaws, and the measure is the cells that are left.
-- Assumes nothing.
use Rattle.std.proofs.Common.{◌≡◌, ◌+◌, ◌-◌, ◌*◌}
use Rattle.model.specs.Sizes.{cycle_most}
use Rattle.plan.specs.Plan.{circuits_in, cycle_in}
use Rattle.slot_search.specs.Code.{demand_in}
use Rattle.slot_search.proofs.LoopLaws.{Turn}
use Rattle.slot_search.proofs.Search.+enter_walk.Given as goal

abbrev pub decreases-enter : goal.decreases-enter
decreases-enter l = (circuits_in l.self.now.plan.now - l.c) * 64 + 63

abbrev pub decreases-walk : goal.decreases-walk
decreases-walk l = (circuits_in l.self.now.plan.now - l.at.circuit) * 64 + (cycle_most - l.at.from)

abbrev pub invariant-walk-loop-a : goal.invariant-walk-loop-a
invariant-walk-loop-a l = record {
  turn : Turn l.self.grid.now l.self.plan.now l.c l.initial.a l.mask l.shut l.initial.left l.initial.taken l.taken l.a l.left;
  cycle : l.cycle ≡ cycle_in l.self.plan.now l.c;
  demand : l.demand ≡ demand_in l.self.plan.now l.c;
}

abbrev pub decreases-walk-loop-a : goal.decreases-walk-loop-a
decreases-walk-loop-a l = cycle_in l.self.plan.now l.c - l.a
