-- `num_cyclic::difference` meets its contract. Assumes nothing.
use mathlib.Core.Path.{refl}
use native.Mathlib.Nat.{mod-lt}
use native.Mathlib.Omega.{arith}
use Rattle.num_cyclic.proofs.Ahead.{ahead_low}
use Rattle.num_cyclic.proofs.difference.Goals as goal

pub overflow_sub-result : goal.overflow_sub-result
overflow_sub-result c = omega (arith, mod-lt c.args.a c.args.g.fits.low, mod-lt c.args.b c.args.g.fits.low)

pub overflow_add-result : goal.overflow_add-result
overflow_add-result c = omega (arith, mod-lt c.args.a c.args.g.fits.low, mod-lt c.args.b c.args.g.fits.low)

pub returns : goal.returns
returns c = record { is = refl; low = ahead_low c.args.g.slots c.args.a c.args.b c.args.g.fits.low }
