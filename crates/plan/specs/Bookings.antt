-- What a booking claims. Assumes nothing: these are definitions.
use Rattle.model.specs.Holding.{Booking as Claim}
use Rattle.plan.specs.Plan.{shown, claim}
use Rattle.plan.specs.declared.booking.Booking.{Booking}

-- what a circuit claims with the offsets that it has taken
abbrev pub claim_of : Booking → Claim
claim_of b = claim (shown b.circuit.now) b.offsets
