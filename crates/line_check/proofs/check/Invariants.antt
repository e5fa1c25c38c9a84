-- `line_check::check` meets its contract. The loop's invariant: the circuits before c have no fault. Assumes nothing.
use Rattle.plan_refusal.proofs.Firsts.{Clear}
use Rattle.line_check.specs.Checks.{fault_in}
use Rattle.line_check.proofs.check.Given as goal

abbrev pub invariant-loop-c : goal.invariant-loop-c
invariant-loop-c l = Clear (fault_in l.b.plan.now l.b.masks.now l.table.bytes.now l.table.lines) l.c
