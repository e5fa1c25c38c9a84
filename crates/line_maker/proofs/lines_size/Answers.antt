-- `line_maker::lines_size` meets its contract. Assumes nothing.
use Rattle.std.proofs.Common.{◌*◌, ◌≤◌, arith}
use native.Mathlib.Nat.{mul-le-mul}
use Rattle.model.specs.Sizes.{cycle_most, hops_most}
use Rattle.num_mask.proofs.Laws.{offsets_few}
use Rattle.line_maker.proofs.lines_size.Goals as goal

pub returns-clause-few : goal.returns-clause-few
returns-clause-few c =
    let few : c.size.result * c.len.result ≤ cycle_most * hops_most = mul-le-mul {n₂ = cycle_most} {m₂ = hops_most} (omega (arith, offsets_few c.args.b.now.offsets)) (omega arith) in
    omega arith
