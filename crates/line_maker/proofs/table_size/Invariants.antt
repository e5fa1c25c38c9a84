-- `line_maker::table_size` meets its contract. The loop sums over the circuits so far, and the sum stays small. Assumes nothing.
use Rattle.std.proofs.Common.{◌≡◌, ◌+◌, ◌*◌, ◌≤◌}
use Rattle.model.specs.Sizes.{head_size, line_size, cycle_most, hops_most}
use Rattle.line_maker.proofs.Sizes.{size_before}
use Rattle.line_maker.proofs.table_size.Given as goal

abbrev pub invariant-loop-c : goal.invariant-loop-c
invariant-loop-c l =
    (l.total ≡ size_before l.b.plan.now l.b.masks.now l.c) × (l.total ≤ head_size + l.c * (cycle_most * hops_most * (head_size + line_size)))
