-- `Cycle::common` meets its contract: each round of the loop keeps the common divisor. Assumes nothing.
use mathlib.Core.Path.{◌≡◌}
use Rattle.model.specs.Divisor.{gcd}
use Rattle.num_divisor.proofs.Cycle.common.Given as goal

abbrev pub invariant-loop-y : goal.invariant-loop-y
invariant-loop-y l = gcd l.fn.self.slots l.fn.other.slots ≡ gcd l.x l.y

abbrev pub decreases-loop-y : goal.decreases-loop-y
decreases-loop-y l = l.y
