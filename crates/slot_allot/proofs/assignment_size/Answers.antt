-- `slot_allot::assignment_size` meets its contract. Assumes nothing.
use Rattle.std.proofs.Common.{◌≡◌, ap, length, arith, rules, tests}
use Rattle.std.specs.List.{sum_by}
use Rattle.std.proofs.lemmas.Iterator.{YieldsList-from_slice, YieldsList-from_map}
use Rattle.std.proofs.lemmas.Iterator.Consumers.{sum_by_from_yields_List}
use Rattle.slot_allot.proofs.Counting.{size, sizes_small, sized}
use Rattle.slot_allot.proofs.assignment_size.Goals as goal
use Rattle.slot_allot.proofs.assignment_size.Goals.{After-sum-circuits}

summed : (c : After-sum-circuits) → c.sum-circuits.result ≡ sum_by size c.args.p.now.items
summed c =
    sum_by_from_yields_List size c.args.p.now.items _ c.sum-circuits.result c.sum-circuits.ensures.ran
    (YieldsList-from_map _ size (YieldsList-from_slice c.args.p.now.items cc) c.map.ensures.closure (λ x r q k. search (rules, tests)))

pub overflow_add-result : goal.overflow_add-result
overflow_add-result c =
    omega (arith, summed (goal.at.overflow_add-result c).After-sum-circuits, sizes_small c.args.p.now.items, c.deref.ensures.1, ap length c.deref.ensures.0)

pub returns : goal.returns
returns c = sized c.args.p.now (summed (goal.at.returns c).After-sum-circuits)
