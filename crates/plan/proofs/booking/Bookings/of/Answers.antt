-- `Bookings::of` meets its contract: the offsets of a circuit are below its cycle. Assumes nothing.
use Rattle.std.proofs.Common.{◌≡◌, ◌^◌, ◌<◌, get_or, ap, sym, subst}
use Rattle.plan.specs.Plan.{CircuitPlan, shown, circuit_in}
use Rattle.plan.proofs.Laws.{circuit_at}
use Rattle.plan.proofs.booking.Bookings.of.Goals as goal

pub invariant_of-result : goal.invariant_of-result
invariant_of-result c =
    let bookings = c.args.self.now in
    let is : shown c.index-deref-c.result ≡ circuit_in bookings.plan.now c.args.c =
    circuit_at bookings.plan.now.items c.args.c c.index-deref-c.result c.requires (rw c.deref.ensures.0 at c.index-deref-c.is) in
    record { low = subst (λ n. get_or bookings.masks.now c.args.c 0 < 2 ^ n) (sym (ap (λ (x : CircuitPlan). x.cycle) is)) (bookings.slotted.low c.args.c c.requires) }
