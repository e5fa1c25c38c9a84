-- `plan_fill::fill` meets its contract. The loop's invariant: the circuits before c are in the plan. Assumes nothing.
use mathlib.Core.Path.{ap}
use native.Mathlib.Omega.{arith}
use Rattle.model.specs.Tests.{up_to}
use Rattle.model.specs.Reading.{request}
use Rattle.model.proofs.Readers.{request_sound}
use Rattle.plan_fill.proofs.Loading.{circuits_more, room, stands}
use Rattle.plan_fill.proofs.fill.Goals as goal

pub loop-c-init : goal.loop-c-init
unfolding up_to
loop-c-init c = rw c.clear.ensures

pub push-requires : goal.push-requires
push-requires c = (omega arith, room _ _ _ c.loop-c.invariant (request_sound _ c.args.request.now.whole.fine) (omega arith))

pub loop-c-preserved : goal.loop-c-preserved
loop-c-preserved c = circuits_more _ _ _ c.loop-c.invariant _ _ _ _ (ap request c.circuit.ensures.file) c.circuit.ensures.circuit c.circuit-in-loop-c.ensures c.push.ensures.items

pub returns : goal.returns
returns c = stands _ _ (request_sound _ c.args.request.now.whole.fine) (omega arith) c.loop-c.invariant
