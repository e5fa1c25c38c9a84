-- `clash_first::first_clash` meets its contract. The loops' invariants: nothing is found yet, and what was passed is clear. Assumes nothing.
use mathlib.Core.Path.{sym, ap, ap₂, ◌∙◌}
use native.Mathlib.Omega.{arith}
use Rattle.plan.specs.Plan.{CircuitPlan, claim}
use Rattle.clash_first.proofs.First.{pair_skip, slots_all, higher_more, lower_more, nowhere, somewhere}
use Rattle.clash_first.proofs.first_clash.Goals as goal

pub clashes_by_sets-requires-clause-left : goal.clashes_by_sets-requires-clause-left
clashes_by_sets-requires-clause-left c =
    rw (ap (λ (x : CircuitPlan). x.uses) c.of-lower.ensures.circuit, c.deref.ensures.0) (c.of_all-sets.ensures.at c.found.i _ (omega arith))

pub clashes_by_sets-requires-clause-right : goal.clashes_by_sets-requires-clause-right
clashes_by_sets-requires-clause-right c =
    rw (ap (λ (x : CircuitPlan). x.uses) c.of-higher.ensures.circuit, c.deref-in-loop-j.ensures.0) (c.of_all-sets.ensures.at c.loop-j.j _ (omega arith))

pub loop-j-preserved-then-not-clashes_by_sets : goal.loop-j-preserved-then-not-clashes_by_sets
loop-j-preserved-then-not-clashes_by_sets c =
    let left = ap₂ claim c.of-lower.ensures.circuit c.of-lower.ensures.offsets in
    let right = ap₂ claim c.of-higher.ensures.circuit c.of-higher.ensures.offsets in
    let clear = pair_skip c.of-lower.result.circuit.now.cycle.fits.low c.of-higher.result.circuit.now.cycle.fits.low (sym c.clashes_by_sets.ensures ∙ c.if-not-clashes_by_sets.true) in
    (c.loop-j.invariant.0, omega arith, higher_more c.loop-j.invariant.2 left right clear)

pub loop-j-preserved : goal.loop-j-preserved
loop-j-preserved c =
    let left = ap₂ claim c.of-lower.ensures.circuit c.of-lower.ensures.offsets in
    let right = ap₂ claim c.of-higher.ensures.circuit c.of-higher.ensures.offsets in
    let clear = slots_all c.loop-t.invariant.1 (rw c.slots_of-slots.ensures.is at c.loop-t-test.false) in
    (c.loop-t.invariant.0, omega arith, higher_more c.loop-j.invariant.2 left right clear)

pub found-preserved : goal.found-preserved
found-preserved c = (c.loop-j.invariant.0, lower_more c.found.invariant.1 c.loop-j.invariant.2 (omega arith))

pub returns-after-found : goal.returns-after-found
returns-after-found c = rw c.found.invariant.0 (λ q assigned b. nowhere b c.found.invariant.1 (omega arith) c.len-n.ensures)

pub returns-then-both_hold : goal.returns-then-both_hold
returns-then-both_hold c =
    let left = ap₂ claim c.of-lower.ensures.circuit c.of-lower.ensures.offsets in
    let right = ap₂ claim c.of-higher.ensures.circuit c.of-higher.ensures.offsets in
    λ q assigned b.
    somewhere b c.found.invariant.1 c.loop-j.invariant.2 left right c.loop-t.invariant.1 c.loop-w.invariant.1 c.len-n.ensures c.loop-j.invariant.1 (omega arith)
    (sym c.both_hold.ensures ∙ c.if-both_hold.true)
