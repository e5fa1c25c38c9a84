-- `file_records::walk` meets its contract: its loop is the model's walk, turn by turn. Assumes nothing.
use mathlib.Core.Path.{refl, ap}
use Rattle.std.proofs.Common.{rules, Ok}
use Rattle.file_records.proofs.Walking.{handed_on, going_start, ran_out, ends, refuses, room_here, going_on}
use Rattle.file_records.proofs.walk.Goals as goal

pub loop-n-init : goal.loop-n-init
loop-n-init g c = search going_start

pub step-requires : goal.step-requires
step-requires g c = c.loop-n.invariant.steps.callable _ _ c.loop-n-test.true c.loop-n.invariant.inside

pub returns-in_err-next : goal.returns-in_err-next
returns-in_err-next g c said t =
    rw (handed_on _ _ c.from_residual.ensures.1)
    (refuses _ _ _ _ _ _ _ _ _ c.loop-n.invariant c.loop-n-test.true _ c.step.ensures _ c.in_err-next.was said t)

pub returns-in_default : goal.returns-in_default
returns-in_default g c said t =
    ends _ _ _ _ _ _ _ _ _ c.loop-n.invariant c.loop-n-test.true _ c.in_ok-next.ensures (ap Ok c.in_default.is) said t

pub keep-requires : goal.keep-requires
keep-requires g c = search (rules, room_here)

pub loop-n-preserved : goal.loop-n-preserved
loop-n-preserved g c =
    going_on _ _ _ _ _ _ _ _ _ c.loop-n.invariant c.loop-n-test.true _ c.in_ok-next.ensures _ (ap Ok c.in-Some.is) _ _ refl c.keep.ensures

pub returns : goal.returns
returns g c = search (rules, ran_out)
