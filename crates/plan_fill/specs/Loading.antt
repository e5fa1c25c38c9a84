-- How a request is put into a plan. Assumes nothing: these are definitions.
use Rattle.model.specs.Network.{Network, Circuit, uses, send, hops}
use Rattle.model.specs.Tests.{up_to}
use Rattle.plan.specs.Plan.{CircuitPlan}

-- what a plan says of a circuit of this network
abbrev pub planned_by : Network → Circuit → CircuitPlan
planned_by net x = record { cycle = x.cycle; demand = x.demand; uses = uses net x; sends = up_to (hops x) (send net x) }
