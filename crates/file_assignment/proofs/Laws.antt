-- The verdict on an offsets record, by its parts. Assumes nothing.
use Prim.Native.Nat.{ℕ, ◌+◌, ◌≤◌, ◌<◌}
use mathlib.Core.Path.{◌≡◌, refl, sym, ◌∙◌}
use mathlib.Core.List.{List, [], ◌∷◌}
use native.Mathlib.Omega.{arith}
use borrow.Author.Tests.{le-leb, lt-leb, ltb-false}
use lib.ListN.{length, drop}
use Rattle.std.specs.declared.result.Result.TheVariants.{Ok, Err}
use Rattle.model.specs.Sizes.{head_size}
use Rattle.model.specs.Tests.{some?}
use Rattle.model.specs.Bytes.{length_at}
use Rattle.model.specs.Network.{Request, Circuit, circuit_of}
use Rattle.model.specs.Reading.{Verdict, judge, and_then, have, bad_offset, offsets_rows, offsets_head, offsets_verdict}
use Rattle.model.proofs.Records.{passed}
use Rattle.model.specs.declared.Fault.TheVariants.{Offsets}
use Rattle.file_assignment.specs.Parts.{offsets_numbers}

module _ (q : Request) (s : List ℕ) (k p : ℕ) where
  pub surplus : length q.circuits ≤ k → Err Offsets ≡ offsets_verdict q s k p
  unfolding offsets_verdict offsets_head
  surplus h = rw (le-leb (length q.circuits) k h) refl

  module _ (low : k < length q.circuits) (circuit : Circuit) (is : circuit ≡ circuit_of q k) where
    pub by_parts : offsets_verdict q s k p
        ≡ and_then (offsets_numbers (have s p) (length_at s p) circuit.demand) (judge ((some? (length_at s p) (bad_offset s p circuit.cycle), Offsets) ∷ []))
    unfolding offsets_verdict offsets_head offsets_numbers
    by_parts = rw (is, lt-leb (length q.circuits) k low) refl

-- where the numbers are in order, the file has all offsets of the record
pub room : (s : List ℕ) (p demand : ℕ) (v : Verdict) (u : Unit {0})
    → v ≡ offsets_numbers (have s p) (length_at s p) demand → v ≡ Ok u → p + head_size + length_at s p ≤ length s
unfolding offsets_numbers
room s p demand v u e ok =
    let t = passed (drop 1 (offsets_rows 0 0 (have s p) (length_at s p) demand)) (sym e ∙ ok) in
    let inside : head_size + length_at s p ≤ have s p = ltb-false _ _ t.1.1.0 in
    omega (arith, inside)
