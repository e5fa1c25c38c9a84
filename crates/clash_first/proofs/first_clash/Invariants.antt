-- `clash_first::first_clash` meets its contract. The loops' invariants: nothing is found yet, and what was passed is clear. Assumes nothing.
use Prim.Native.Nat.{◌-◌, ◌<◌}
use mathlib.Core.Path.{◌≡◌}
use Rattle.std.specs.Prelude.{Ok}
use Rattle.model.specs.Sizes.{resources_most}
use Rattle.plan.specs.Plan.{booking_in}
use Rattle.plan.specs.Bookings.{claim_of}
use Rattle.clash_first.proofs.First.{ClearWhats, ClearSlots, ClearHigher, ClearLower}
use Rattle.clash_first.proofs.first_clash.Given as goal

abbrev pub invariant-loop-w : goal.invariant-loop-w
invariant-loop-w l = (l.answer ≡ Ok tt) × ClearWhats (claim_of l.lower) (claim_of l.higher) l.t l.w

abbrev pub decreases-loop-w : goal.decreases-loop-w
decreases-loop-w l = resources_most - l.w

abbrev pub invariant-loop-t : goal.invariant-loop-t
invariant-loop-t l = (l.answer ≡ Ok tt) × ClearSlots (claim_of l.lower) (claim_of l.higher) l.t

abbrev pub decreases-loop-t : goal.decreases-loop-t
decreases-loop-t l = l.slots - l.t

abbrev pub invariant-loop-j : goal.invariant-loop-j
invariant-loop-j l = (l.answer ≡ Ok tt) × (l.i < l.j) × ClearHigher (booking_in l.b.plan.now l.b.masks.now) l.i l.j

abbrev pub decreases-loop-j : goal.decreases-loop-j
decreases-loop-j l = l.n - l.j

abbrev pub invariant-found : goal.invariant-found
invariant-found l = (l.answer ≡ Ok tt) × ClearLower (booking_in l.b.plan.now l.b.masks.now) l.n l.i

abbrev pub decreases-found : goal.decreases-found
decreases-found l = l.n - l.i
