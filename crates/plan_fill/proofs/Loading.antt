-- The uses and sends of a circuit hop by hop, and the circuits one after the other. Assumes nothing.
use Prim.Native.Nat.{ℕ, zero, suc, ◌+◌, ◌≤◌, ◌<◌}
use mathlib.Core.Path.{◌≡◌, refl, sym, ap, ◌∙◌}
use mathlib.Core.List.{List, [], ◌∷◌, ◌++◌, map}
use native.Mathlib.Numerals.{add-one}
use native.Mathlib.Omega.{arith}
use borrow.Author.Tests.{ne_eqb}
use lib.ListN.{length, get_or, length-map}
use Rattle.std.specs.List.{All}
use Rattle.std.proofs.lemmas.List.{map-append}
use Rattle.std.proofs.lemmas.List.Elements.{All-from_get_or}
use Rattle.model.specs.Sizes.{inport_of, local, circuits_most}
use Rattle.model.specs.Tests.{up_to}
use Rattle.model.specs.declared.Use.{Use}
use Rattle.model.specs.declared.Send.{Send}
use Rattle.model.specs.Network.{Network, Circuit, Request, circuit_of, hops, hop, inport, after, hop_use, uses, send, from_router}
use Rattle.model.specs.Reading.{request}
use Rattle.model.specs.Sound.{SoundPath, SoundRequest}
use Rattle.model.proofs.Sound.{after_first, after_next, after_low}
use Rattle.model.proofs.Tests.{length-up_to, get_or-up_to}
use Rattle.file_parts.specs.Parts.{HopIs, FromIs}
use Rattle.arrayvec.specs.ArrayVec.{ArrayVec}
use Rattle.plan.specs.declared.Circuit.{Circuit as Planned}
use Rattle.plan.specs.Ports.{SendFits}
use Rattle.plan.specs.Plan.{CircuitPlan, no_circuit, shown, planned, Stands}
use Rattle.plan_fill.specs.Loading.{planned_by}

-- one more at the end
pub up_to_more : {A : Type 0} (n : ℕ) (f : ℕ → A) → up_to (suc n) f ≡ up_to n f ++ (f n ∷ [])
unfolding up_to
up_to_more zero f = refl
up_to_more (suc n) f = ap (λ l. f zero ∷ l) (up_to_more n (λ i. f (suc i)))

-- ---- a circuit

-- what stands of its uses and sends before hop j, where a packet is at the inport inp, so late after its admission
pub record Hops (net : Network) (x : Circuit) (j : ℕ) (us : List Use) (ss : List Send) (inp late : ℕ) : Type 0 where
  pub uses_are : us ≡ record { what = inport_of (from_router net (hop x 0)); after = after net x 0 } ∷ up_to j (hop_use net x)
  pub sends_are : ss ≡ up_to j (send net x)
  pub inport_is : inp ≡ inport x j
  pub late_is : late ≡ after net x j

module _ {net : Network} {x : Circuit} where
  pub hops_none : {b r : ℕ} {us : List Use} {ss : List Send} → HopIs net x 0 b → FromIs net b r → us ≡ record { what = inport_of r; after = 0 } ∷ [] → ss ≡ [] → Hops net x 0 us ss local 0
  unfolding up_to inport
  hops_none h f u s = record { uses_are = rw (u, f.is, h.is, after_first net x) refl; sends_are = s; inport_is = refl; late_is = sym (after_first net x) }

  module _ {j inp late : ℕ} {us : List Use} {ss : List Send} (done : Hops net x j us ss inp late) where
    pub uses_many : length us ≡ suc j
    uses_many = ap length done.uses_are ∙ ap suc (length-up_to j (hop_use net x))

    pub sends_many : length ss ≡ j
    sends_many = ap length done.sends_are ∙ length-up_to j (send net x)

    pub hops_more : {b r : ℕ} {us' : List Use} {ss' : List Send} → HopIs net x j b → FromIs net b r
        → us' ≡ us ++ (record { what = b; after = late } ∷ []) → ss' ≡ ss ++ (record { router = r; inp = inp; out = b; after = late } ∷ [])
        → Hops net x (j + 1) us' ss' b (late + 1)
    unfolding inport hop_use send
    hops_more h f u s = rw (add-one j) (record {
      uses_are = rw (u, done.uses_are, h.is, done.late_is, up_to_more j (hop_use net x)) refl;
      sends_are = rw (s, done.sends_are, f.is, h.is, done.inport_is, done.late_is, up_to_more j (send net x)) refl;
      inport_is = h.is;
      late_is = add-one late ∙ ap suc done.late_is ∙ sym (after_next net x j);
    })

    pub late_low : late ≤ j
    late_low = omega (arith, done.late_is, after_low net x j)

    pub circuit_is : {cycle demand : ℕ} → cycle ≡ x.cycle → demand ≡ x.demand → j ≡ hops x
        → ◌≡◌ {A = CircuitPlan} (record { cycle = cycle; demand = demand; uses = us; sends = ss }) (planned_by net x)
    unfolding uses
    circuit_is c d n = rw (c, d, done.uses_are, done.sends_are, n) refl

-- its sends are of routers and from inports that there are
module _ {q : Request} (sound : SoundRequest q) {x : Circuit} (path : SoundPath q.network x) where
  send_fits : (j : ℕ) → j < hops x → SendFits (send q.network x j)
  unfolding send inport
  send_fits zero h =
      let owner = sound.owned _ (path.known zero h) in
      record { router = omega (arith, owner, sound.routers); port = omega (arith, owner, sound.routers) }
  send_fits (suc i) h =
      let owner = sound.owned _ (path.known (suc i) h) in
      let before : hop x i < 128 = omega (arith, path.known i (omega arith), sound.buffers) in
      record { router = omega (arith, owner, sound.routers); port = rw (ne_eqb (hop x i) local (λ e. omega arith)) (omega arith) }

  pub sends_fit : {j inp late : ℕ} {us : List Use} {ss : List Send} → Hops q.network x j us ss inp late → j ≤ hops x → All SendFits ss
  sends_fit {j} done n =
      rw done.sends_are
      (All-from_get_or SendFits (up_to j (send q.network x)) (record { router = 0; inp = 0; out = 0; after = 0 })
      (λ i h. let l : i < j = omega (arith, length-up_to j (send q.network x)) in rw (get_or-up_to j (send q.network x) i _ l) (send_fits i (omega arith))))

-- ---- all circuits

module _ (q : Request) (c : ℕ) (xs : List Planned) (done : map shown xs ≡ up_to c (planned q)) where
  pub many : length xs ≡ c
  many = sym (length-map xs shown) ∙ ap length done ∙ length-up_to c (planned q)

  -- s is the file of the circuit that was put in, and x that circuit
  pub circuits_more : (s : List ℕ) (x : Circuit) (y : Planned) (ys : List Planned) → request s ≡ q → x ≡ circuit_of q c → shown y ≡ planned_by (request s).network x
      → ys ≡ xs ++ (y ∷ []) → map shown ys ≡ up_to (c + 1) (planned q)
  unfolding planned
  circuits_more s x y ys se xe ye e = rw (e, map-append shown xs (y ∷ []), done, ye, xe, se, add-one c, up_to_more c (planned q)) refl

  pub room : SoundRequest q → c < length q.circuits → length xs < circuits_most
  room sound h = omega (arith, many, sound.circuits)

pub stands : {q : Request} (c : ℕ) (p : ArrayVec Planned) → SoundRequest q → c ≡ length q.circuits → map shown p.items ≡ up_to c (planned q) → Stands q p
stands {q} c p sound e done = record {
  sound = sound;
  many = many q c p.items done ∙ e;
  each = λ k h. ap (λ (l : List CircuitPlan). get_or l k no_circuit) done ∙ get_or-up_to c (planned q) k no_circuit (omega (arith, many q c p.items done));
}
