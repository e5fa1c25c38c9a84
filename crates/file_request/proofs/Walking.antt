-- The walk over the records of a request, by the network's record and by its steps. Assumes nothing.
use Prim.Native.Nat.{ℕ, suc, ◌+◌, ◌≤◌}
use mathlib.Core.Path.{◌≡◌, sym, ap, ◌∙◌}
use mathlib.Core.Bool.{false}
use mathlib.Core.List.{List, []}
use native.Mathlib.Omega.{arith}
use lib.ListN.{length}
use borrow.Author.Tests.{ltb-false, leb-false}
use Rattle.std.specs.declared.result.Result.{Result}
use Rattle.arrayvec.specs.ArrayVec.{ArrayVec}
use Rattle.model.specs.Sizes.{circuits_most, circuit_kind, head_size}
use Rattle.model.specs.Bytes.{length_at}
use Rattle.model.specs.Reading.{Verdict, faultless, walk, network_verdict, circuit_verdict, request_step, request_walk}
use Rattle.model.specs.declared.Damage.{Damage}
use Rattle.model.proofs.Readers.{network_tests_lem, circuit_tests_lem, walked_by}
use Rattle.file_records.specs.Walks.{places_of}
use Rattle.file_records.proofs.Bounds.{Bounded, bounded_by}

pub bounded : (s : List ℕ) → Bounded circuits_most (request_step s) (length s)
unfolding request_step
bounded s =
    bounded_by circuits_most circuit_kind (λ _. false) (circuit_verdict s) s
    (λ n p fine. let t = (circuit_tests_lem s n p fine).0 in (leb-false _ _ t.0, ltb-false _ _ t.1.1.1.1.0))

-- the network's record has no fault
module _ (s : List ℕ) (fine : network_verdict s ≡ faultless) where
  pub first_inside : head_size + length_at s 0 ≤ length s
  first_inside = omega (arith, ltb-false (length s) (head_size + length_at s 0) (network_tests_lem s fine).0.1.1.1.1.1.0)

  pub read_on : (r : Result (ArrayVec ℕ) Damage)
      → r ≡ places_of (walk (suc circuits_most) (request_step s) [] (head_size + length_at s 0)) → r ≡ places_of (request_walk s)
  unfolding request_walk
  read_on r e = e ∙ ap (λ (v : Verdict). places_of (walked_by s v)) (sym fine)
