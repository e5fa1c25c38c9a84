-- `line_check::check_circuit` meets its contract. The loop's invariant: the offsets so far have no fault. Assumes nothing.
use mathlib.Core.Path.{◌≡◌}
use mathlib.Core.Option.{none}
use Rattle.std.specs.List.{All}
use Rattle.plan.specs.Plan.{shown}
use Rattle.line_check.specs.Checks.{offset_fault}
use Rattle.line_check.proofs.check_circuit.Given as goal

abbrev pub invariant-loop-offset : goal.invariant-loop-offset
invariant-loop-offset l = All (λ a. offset_fault (shown l.booking.circuit.now) l.table.bytes.now l.table.lines l.number a ≡ none) l.yielded
