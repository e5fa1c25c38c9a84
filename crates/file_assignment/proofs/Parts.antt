-- Laws for callers: what is known of a file by what `read` returned of it, and of the record at a circuit's byte. Assumes nothing.
use Prim.Native.Nat.{ℕ, ◌+◌, ◌≤◌, ◌<◌}
use mathlib.Core.Path.{◌≡◌, sym, ap, ◌∙◌}
use mathlib.Core.List.{List, []}
use mathlib.Core.Option.{none}
use native.Mathlib.Omega.{arith}
use borrow.Author.Tests.{ltb-false}
use lib.ListN.{length, get_or, length-map}
use Rattle.std.specs.declared.result.Result.TheVariants.{Ok}
use Rattle.arrayvec.specs.ArrayVec.{ArrayVec}
use Rattle.model.specs.Sizes.{head_size, assignment_file}
use Rattle.model.specs.Bytes.{length_at}
use Rattle.model.specs.Network.{Request}
use Rattle.model.specs.Holding.{offsets_of}
use Rattle.model.specs.Answers.{damage}
use Rattle.model.specs.Reading.{faultless, have, Walked, complete, starts, offsets_verdict, assignment_walk, offsets_at, assignment}
use Rattle.model.specs.Jobs.{assignment_fault}
use Rattle.std.proofs.lemmas.List.{get_or-map}
use Rattle.model.proofs.Readers.{offsets_free, offsets_tests_lem, offsets_sound}
use Rattle.file_records.specs.Walks.{places_of}
use Rattle.file_records.proofs.Endings.{places-whole}
use Rattle.file_assignment.specs.Parts.{BookedAt}

module _ (q : Request) (s : List ℕ) where
  -- a file without a fault has a record for each circuit
  starts_many : assignment_fault q s ≡ none → length (starts (assignment_walk q s)) ≡ length q.circuits
  unfolding assignment
  starts_many e = sym (length-map (starts (assignment_walk q s)) (offsets_at s)) ∙ (offsets_sound q s e).each

  -- ---- `read` told of these places: the file is whole

  module _ (places : ArrayVec ℕ) (e : Ok places ≡ places_of (assignment_walk q s)) where
    walked : assignment_walk q s ≡ complete places.items
    walked = places-whole (assignment_walk q s) places e

    pub file_whole : assignment_fault q s ≡ none
    file_whole = ap (damage assignment_file) walked

    pub places_many : length places.items ≡ length q.circuits
    places_many = ap (λ (w : Walked). length (starts w)) (sym walked) ∙ starts_many file_whole

    pub booked_here : (c : ℕ) → c < length q.circuits → BookedAt q s c (get_or places.items c 0)
    booked_here c low = record { whole = file_whole; low = low; is = ap (λ (w : Walked). get_or (starts w) c 0) (sym walked) }

  -- ---- circuit c's record starts at a

  module _ (c a : ℕ) (b : BookedAt q s c a) where
    found : c < length (starts (assignment_walk q s))
    found = omega (arith, starts_many b.whole, b.low)

    fine : offsets_verdict q s c a ≡ faultless
    fine = rw b.is ((offsets_free q s b.whole).fine c found)

    pub offsets_are : offsets_of (assignment q s) c ≡ offsets_at s a
    unfolding assignment
    offsets_are = get_or-map (offsets_at s) (starts (assignment_walk q s)) c 0 [] found ∙ ap (offsets_at s) (sym b.is)

    pub record_inside : a + head_size + length_at s a ≤ length s
    record_inside =
        let body : head_size + length_at s a ≤ have s a = ltb-false _ _ (offsets_tests_lem q s c a fine).0.1.1.1.0 in
        omega arith
