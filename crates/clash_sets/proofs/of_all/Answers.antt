-- `clash_sets::of_all` meets its contract. Assumes nothing.
use Rattle.clash_sets.proofs.Sets.{sets_more}
use Rattle.clash_sets.proofs.of_all.Goals as goal

pub loop-circuit-preserved : goal.loop-circuit-preserved
loop-circuit-preserved c =
    let items = c.deref-circuit-items.ensures.0 in
    rw c.push.ensures.items (sets_more c.circuit-item.result c.of.result c.loop-circuit.invariant (rw items at c.loop-circuit-test.true) (rw items at c.circuit-item.is) c.of.ensures)
