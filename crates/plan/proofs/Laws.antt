-- What the circuits of a plan that stands for a request are, and their bookings. Assumes nothing.
use Rattle.std.proofs.Common.{ℕ, zero, suc, ◌<◌, ◌≤◌, ◌≡◌, List, [], ◌∷◌, All, length, get_or, map, arith, ap, ap₂, sym, ◌∙◌}
use Rattle.std.proofs.lemmas.List.{get_or-map}
use Rattle.arrayvec.specs.ArrayVec.{ArrayVec}
use Rattle.model.specs.Tests.{up_to}
use Rattle.model.specs.Network.{Request, uses, send, hops, circuit_of}
use Rattle.model.specs.Holding.{booking}
use Rattle.model.proofs.Tests.{length-up_to}
use Rattle.num_divisor.specs.Common.{IsCycle}
use Rattle.plan.specs.declared.Circuit.{Circuit}
use Rattle.plan.specs.Ports.{SendFits}
use Rattle.plan.specs.Plan.{CircuitPlan, shown, no_circuit, circuits_in, circuit_in, cycle_in, booking_in, planned, Stands, Booked}

-- ---- circuits by number

-- the circuit x that stands at place c of a plan
pub circuit_at : (xs : List Circuit) (c : ℕ) (x : Circuit) → c < length xs → x ≡ get_or xs c x → shown x ≡ get_or (map shown xs) c no_circuit
circuit_at xs c x h e = ap shown e ∙ sym (get_or-map shown xs c x no_circuit h)

-- what every circuit keeps, by its type
pub record Fits (x : CircuitPlan) : Type 0 where
  pub cycle : IsCycle x.cycle
  pub demand : x.demand ≤ x.cycle
  pub sends : All SendFits x.sends

fits_of : (xs : List Circuit) (c : ℕ) → Fits (get_or (map shown xs) c no_circuit)
fits_of [] c = record { cycle = record { low = omega arith; high = omega arith }; demand = omega arith; sends = λ k d h. absurd (omega arith) }
fits_of (x ∷ xs) zero = record { cycle = x.cycle.fits; demand = x.demand_fits; sends = x.sends_fit }
fits_of (x ∷ xs) (suc c) = fits_of xs c

pub fits : (p : ArrayVec Circuit) (c : ℕ) → Fits (circuit_in p c)
fits p c = fits_of p.items c

-- ---- a plan that stands

module _ {q : Request} {p : ArrayVec Circuit} (s : Stands q p) {c : ℕ} (h : c < circuits_in p) where
  pub cycle_is : cycle_in p c ≡ (circuit_of q c).cycle
  unfolding planned
  cycle_is = ap (λ (x : CircuitPlan). x.cycle) (s.each c h)

  pub demand_is : (circuit_in p c).demand ≡ (circuit_of q c).demand
  unfolding planned
  demand_is = ap (λ (x : CircuitPlan). x.demand) (s.each c h)

  pub uses_are : (circuit_in p c).uses ≡ uses q.network (circuit_of q c)
  unfolding planned
  uses_are = ap (λ (x : CircuitPlan). x.uses) (s.each c h)

  pub sends_are : (circuit_in p c).sends ≡ up_to (hops (circuit_of q c)) (send q.network (circuit_of q c))
  unfolding planned
  sends_are = ap (λ (x : CircuitPlan). x.sends) (s.each c h)

  pub send_count_is : length (circuit_in p c).sends ≡ hops (circuit_of q c)
  send_count_is = ap length sends_are ∙ length-up_to _ _

pub booking_is : {q : Request} {assigned : List (List ℕ)} {p : ArrayVec Circuit} {m : List ℕ} → Booked q assigned p m → {c : ℕ} → c < circuits_in p → booking_in p m c ≡ booking q assigned c
unfolding booking planned
booking_is b {c} h = ap₂ (λ (x : CircuitPlan) (os : List ℕ). record { cycle = x.cycle; uses = x.uses; offsets = os }) (b.stands.each c h) (b.taken c h)
