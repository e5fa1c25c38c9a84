-- How a plan stands for the circuits of a request, and masks for their offsets. Assumes nothing: these are definitions.
use Rattle.std.specs.Prelude.{ℕ, ◌^◌, ◌<◌, ◌≡◌, List, [], map, length, get_or}
use Rattle.arrayvec.specs.ArrayVec.{ArrayVec}
use Rattle.model.specs.Tests.{up_to}
use Rattle.model.specs.Network.{Request, uses, send, hops, circuit_of}
use Rattle.model.specs.declared.Use.{Use}
use Rattle.model.specs.declared.Send.{Send}
use Rattle.model.specs.Holding.{Booking, offsets_of}
use Rattle.model.specs.Sound.{SoundRequest}
use Rattle.num_mask.specs.Bits.{offsets}
use Rattle.plan.specs.declared.Circuit.{Circuit}

-- ---- what a plan says

-- a circuit of a plan
pub record CircuitPlan : Type 0 where
  pub cycle : ℕ
  pub demand : ℕ
  pub uses : List Use
  pub sends : List Send

-- a circuit's numbers
abbrev pub shown : Circuit → CircuitPlan
shown c = record { cycle = c.cycle.slots; demand = c.demand; uses = c.uses.items; sends = c.sends.items }

-- there is no such circuit
abbrev pub no_circuit : CircuitPlan
no_circuit = record { cycle = 1; demand = 0; uses = []; sends = [] }

module _ (p : ArrayVec Circuit) where
  abbrev pub circuits_in : ℕ
  circuits_in = length p.items

  abbrev pub circuit_in : ℕ → CircuitPlan
  circuit_in c = get_or (map shown p.items) c no_circuit

  abbrev pub cycle_in : ℕ → ℕ
  cycle_in c = (circuit_in c).cycle

-- what a circuit claims with the offsets of a mask
abbrev pub claim : CircuitPlan → ℕ → Booking
claim x m = record { cycle = x.cycle; uses = x.uses; offsets = offsets m }

-- what circuit c claims with the offsets of its mask
abbrev pub booking_in : ArrayVec Circuit → List ℕ → ℕ → Booking
booking_in p m c = claim (circuit_in p c) (get_or m c 0)

-- ---- what the request says

unfoldable pub planned : Request → ℕ → CircuitPlan
planned q c =
    let x = circuit_of q c in
    record { cycle = x.cycle; demand = x.demand; uses = uses q.network x; sends = up_to (hops x) (send q.network x) }

-- the plan stands for a sound request
pub record Stands (q : Request) (p : ArrayVec Circuit) : Type 0 where
  pub sound : SoundRequest q
  pub many : circuits_in p ≡ length q.circuits
  pub each : (c : ℕ) → c < circuits_in p → circuit_in p c ≡ planned q c

-- and the masks for the offsets of its circuits
pub record Booked (q : Request) (assigned : List (List ℕ)) (p : ArrayVec Circuit) (m : List ℕ) : Type 0 where
  pub stands : Stands q p
  pub taken : (c : ℕ) → c < circuits_in p → offsets (get_or m c 0) ≡ offsets_of assigned c

-- the offsets of each circuit are below its cycle
pub record Slotted (p : ArrayVec Circuit) (m : List ℕ) : Type 0 where
  pub low : (c : ℕ) → c < circuits_in p → get_or m c 0 < 2 ^ cycle_in p c
