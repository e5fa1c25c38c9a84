-- `line_check::check_offset` meets its contract. The loop's invariant: the hops so far have no fault. Assumes nothing.
use Rattle.plan.specs.Plan.{shown}
use Rattle.plan_refusal.proofs.Firsts.{Clear}
use Rattle.line_check.specs.Checks.{hop_fault}
use Rattle.line_check.proofs.check_offset.Given as goal

abbrev pub invariant-loop-hop : goal.invariant-loop-hop
invariant-loop-hop l = Clear (hop_fault (shown l.circuit) l.table.bytes.now l.table.lines l.number l.offset) l.hop
