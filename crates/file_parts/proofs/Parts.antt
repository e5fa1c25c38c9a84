-- What is known of the parts of a request without a fault. Assumes nothing.
use Prim.Native.Nat.{ℕ, ◌+◌, ◌≤◌, ◌<◌}
use mathlib.Core.Path.{◌≡◌, sym, ap, subst, ◌∙◌}
use mathlib.Core.List.{List}
use native.Mathlib.Omega.{arith}
use lib.ListN.{length, get_or, length-map}
use borrow.Author.Tests.{ltb-false}
use Rattle.model.specs.Sizes.{head_size, circuits_most}
use Rattle.model.specs.Bytes.{length_at}
use Rattle.model.specs.Network.{circuit_of, no_circuit, hops}
use Rattle.model.specs.Reading.{faultless, from_of, path_place, have, starts, hops_at, hop_at, circuit_at, circuit_verdict, request_walk, request}
use Rattle.model.proofs.Tests.{get_or-up_to, length-up_to}
use Rattle.std.proofs.lemmas.List.{get_or-map}
use Rattle.model.proofs.Readers.{buffers_are, from_is, circuit_tests_lem, request_free, request_sound}
use Rattle.file_records.specs.Fields.{Byte, Word}
use Rattle.file_parts.specs.Parts.{Starts, StartsAt, HopsIs, HopIs, FromIs}

circuits_are : (s : List ℕ) → length (request s).circuits ≡ length (starts (request_walk s))
unfolding request
circuits_are s = length-map (starts (request_walk s)) (circuit_at s)

-- ---- the request, its circuits by number, and its buffers

module _ {s at : List ℕ} (g : Starts s at) where
  pub many : length at ≡ length (request s).circuits
  many = ap length g.are ∙ sym (circuits_are s)

  pub few : length at ≤ circuits_most
  few = omega (arith, many, (request_sound s g.fine).circuits)

  module _ (c : ℕ) (low : c < length (request s).circuits) where
    pub circuit_is : circuit_at s (get_or at c 0) ≡ circuit_of (request s) c
    unfolding request
    circuit_is =
        ap (λ (l : List ℕ). circuit_at s (get_or l c 0)) g.are
        ∙ sym (get_or-map (circuit_at s) (starts (request_walk s)) c 0 no_circuit (omega (arith, circuits_are s)))

    fine : circuit_verdict s c (get_or at c 0) ≡ faultless
    fine =
        subst (λ (l : List ℕ). circuit_verdict s c (get_or l c 0) ≡ faultless) (sym g.are)
        ((request_free s g.fine).1.fine c (omega (arith, circuits_are s)))

    pub starts_at : StartsAt s (get_or at c 0)
    starts_at =
        let t = (circuit_tests_lem s c (get_or at c 0) fine).0 in
        record {
          whole = g.fine;
          inside = omega
              (arith, ltb-false (length_at s (get_or at c 0)) 6 t.1.0, ltb-false (have s (get_or at c 0)) (head_size + length_at s (get_or at c 0)) t.1.1.1.1.0);
          path = rw circuit_is ((request_sound s g.fine).path c low);
        }

  module _ (b r : ℕ) (low : b < length (request s).network.links) (w : r ≡ from_of s b) where
    pub owner_is : FromIs (request s).network b r
    owner_is =
        let ok = request_sound s g.fine in
        let e = w ∙ sym (from_is s b (omega (arith, buffers_are s))) in
        record { is = e; known = omega (arith, e, ok.owned b low); small = omega (arith, e, ok.owned b low, ok.routers) }

-- ---- the circuit whose record starts at a

module _ {s : List ℕ} {a : ℕ} (g : StartsAt s a) where
  hops_are : hops (circuit_at s a) ≡ hops_at s a
  hops_are = length-up_to (hops_at s a) (hop_at s a)

  pub hops_is : (r : ℕ) → Byte s (a + 6) r → HopsIs (circuit_at s a) r
  hops_is r w =
      let e : r ≡ hops (circuit_at s a) = w.is ∙ sym hops_are in
      record { is = e; low = omega (arith, g.path.some); high = omega (arith, g.path.few) }

  pub hop_is : (j r : ℕ) → j < hops (circuit_at s a) → Word s (path_place a j) r → HopIs (request s).network (circuit_at s a) j r
  hop_is j r h w =
      let e = w.is ∙ sym (get_or-up_to (hops_at s a) (hop_at s a) j 0 (omega (arith, hops_are))) in
      record {
        is = e;
        known = omega (arith, e, g.path.known j h);
        small = omega (arith, e, g.path.known j h, (request_sound s g.whole).buffers);
      }
