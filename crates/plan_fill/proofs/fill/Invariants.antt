-- `plan_fill::fill` meets its contract. The loop's invariant: the circuits before c are in the plan. Assumes nothing.
use mathlib.Core.Path.{◌≡◌}
use mathlib.Core.List.{map}
use Rattle.model.specs.Tests.{up_to}
use Rattle.file_parts.specs.Records.{asked}
use Rattle.plan.specs.Plan.{shown, planned}
use Rattle.plan_fill.proofs.fill.Given as goal

abbrev pub invariant-loop-c : goal.invariant-loop-c
invariant-loop-c l = map shown l.plan.items ≡ up_to l.c (planned (asked l.request))
