-- `clash_held::clashes_by_sets` meets its contract. Assumes nothing.
use mathlib.Core.Path.{sym, ◌∙◌}
use Rattle.plan.specs.Bookings.{claim_of}
use Rattle.clash_held.proofs.Sets.{apart_never}
use Rattle.clash_held.proofs.clashes_by_sets.Goals as goal

pub returns-else-not-is_apart : goal.returns-else-not-is_apart
returns-else-not-is_apart c =
    let a = c.args.a.now in
    let b = c.args.b.now in
    rw c.if-not-is_apart.false (sym (apart_never (claim_of a) (claim_of b) a.circuit.now.cycle.fits.low b.circuit.now.cycle.fits.low c.requires.left c.requires.right (sym c.is_apart.ensures ∙ c.if-not-is_apart.false)))
