-- `plan_fill::circuit` meets its contract. The loop's invariant: the uses and the sends of the hops before j stand. Assumes nothing.
use native.Mathlib.Omega.{arith}
use Rattle.model.proofs.Readers.{request_sound}
use Rattle.plan_fill.proofs.Loading.{hops_none, uses_many, sends_many, hops_more, late_low, circuit_is, sends_fit}
use Rattle.plan_fill.proofs.circuit.Goals as goal

pub loop-j-init : goal.loop-j-init
loop-j-init c = hops_none c.hop-first.ensures c.owner-owner.ensures (rw (c.new-uses.ensures, c.from.ensures) at c.push.ensures.items) c.new-sends.ensures

pub push-requires-in-loop-j : goal.push-requires-in-loop-j
push-requires-in-loop-j c = (omega arith, omega (arith, uses_many c.loop-j.invariant))

pub push-requires-in-loop-j-2 : goal.push-requires-in-loop-j-2
push-requires-in-loop-j-2 c = (omega arith, omega (arith, sends_many c.loop-j.invariant))

pub overflow_add-late : goal.overflow_add-late
overflow_add-late c = omega (arith, late_low c.loop-j.invariant)

pub loop-j-preserved : goal.loop-j-preserved
loop-j-preserved c = hops_more c.loop-j.invariant c.hop-buffer.ensures c.owner-router.ensures c.push-in-loop-j.ensures.items c.push-in-loop-j-2.ensures.items

pub invariant_of-result-clause-sends_fit : goal.invariant_of-result-clause-sends_fit
invariant_of-result-clause-sends_fit c =
    let here = c.args.source.now.here in
    sends_fit (request_sound _ here.whole) here.path c.loop-j.invariant (omega arith)

pub returns : goal.returns
returns c = circuit_is c.loop-j.invariant c.cycle-cycle.ensures c.demand-demand.ensures.is (omega (arith, c.hops-j-end.ensures.is))
