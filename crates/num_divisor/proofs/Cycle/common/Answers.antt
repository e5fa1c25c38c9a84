-- `Cycle::common` meets its contract: each round of the loop keeps the common divisor. Assumes nothing.
use Prim.Native.Nat.{ℕ}
use mathlib.Core.Path.{◌≡◌, sym, ap, ◌∙◌}
use native.Mathlib.Nat.{mod-lt, le_of_dvd}
use native.Mathlib.Omega.{arith}
use Rattle.model.specs.Divisor.{gcd}
use Rattle.model.proofs.Divisor.{gcd_step, gcd-zero, gcd_pos, gcd_divides_left}
use Rattle.num_divisor.specs.Common.{IsCycle, Common}
use Rattle.num_divisor.proofs.Cycle.common.Goals as goal

-- where the loop ends
last : {a b x y : ℕ} → IsCycle a → gcd a b ≡ gcd x y → y ≡ 0 → Common a b x
last {a} {b} {x} {y} fits same end =
    let is = sym (same ∙ ap (gcd x) end ∙ gcd-zero x) in
    record {
      is = is;
      low = omega (arith, is, gcd_pos a b fits.low);
      high = omega (arith, is, le_of_dvd fits.low (gcd_divides_left a b), fits.high);
    }

pub loop-y-smaller : goal.loop-y-smaller
loop-y-smaller c = mod-lt c.loop-y.x (omega arith)

pub loop-y-preserved : goal.loop-y-preserved
loop-y-preserved c = c.loop-y.invariant ∙ gcd_step c.loop-y.x c.loop-y.y

pub invariant_of-result : goal.invariant_of-result
invariant_of-result c =
    let r = last c.args.self.fits c.loop-y.invariant (omega arith) in
    record { fits = record { low = r.low; high = r.high } }

pub returns : goal.returns
returns c = last c.args.self.fits c.loop-y.invariant (omega arith)
