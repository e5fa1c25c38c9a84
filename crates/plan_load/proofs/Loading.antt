-- What is held of a request and an assignment that were loaded. Assumes nothing.
use Prim.Native.Nat.{ℕ}
use mathlib.Core.Path.{◌≡◌, refl, sym, ap, ◌∙◌}
use mathlib.Core.List.{List}
use mathlib.Core.Option.{none, some}
use native.Mathlib.Omega.{arith}
use lib.ListN.{length}
use Rattle.std.specs.Result.{IfErr, IsErrAnd}
use Rattle.std.specs.declared.result.Result.{Result}
use Rattle.std.specs.declared.result.Result.TheVariants.{Ok, Err}
use Rattle.arrayvec.specs.ArrayVec.{ArrayVec}
use Rattle.model.specs.Tests.{◌else◌}
use Rattle.model.specs.Network.{Request}
use Rattle.model.specs.Reading.{Walked, stopped, request_walk, request, assignment_walk}
use Rattle.model.specs.Answers.{damage}
use Rattle.model.specs.Jobs.{request_fault, assignment_fault}
use Rattle.model.specs.declared.Damage.{Damage}
use Rattle.model.specs.declared.Answer.{Answer}
use Rattle.model.specs.declared.Answer.TheVariants.{Damaged}
use Rattle.model.proofs.Readers.{request_sound, request_byte_fits, assignment_byte_fits}
use Rattle.file_records.specs.Walks.{places_of}
use Rattle.file_records.proofs.Endings.{places-stopped}
use Rattle.file_assignment.proofs.Parts.{file_whole, booked_here, places_many}
use Rattle.plan.specs.declared.Circuit.{Circuit}
use Rattle.plan.specs.Plan.{Stands}
use Rattle.plan.proofs.Laws.{cycle_is}
use Rattle.plan_refusal.proofs.Firsts.{handed_on}
use Rattle.plan_refusal.specs.Found.{Tested, found}
use Rattle.plan_masks.specs.Masks.{Risings, MasksOf}
use Rattle.plan_load.specs.Loaded.{ByteFits, damage_of, LoadsBoth}
use Rattle.plan_load.proofs.Offsets.{rising_of, taken_of, below_of}

-- the byte of a file that was read and has a fault
pub request_fits : (s : List ℕ) (d : Damage) → Err d ≡ places_of (request_walk s) → ByteFits d
request_fits s d e = record { small = request_byte_fits s d.fault d.byte (places-stopped (request_walk s) d e) }

pub assignment_fits : (q : Request) (s : List ℕ) (d : Damage) → Err d ≡ places_of (assignment_walk q s) → ByteFits d
assignment_fits q s d e = record { small = assignment_byte_fits q s d.fault d.byte (places-stopped (assignment_walk q s) d e) }

-- ---- what is told of a file that was read

pub fits_by : {T : Type 0} (read : Result T Damage) → ((d : Damage) → read ≡ Err d → ByteFits d) → IfErr read ByteFits
fits_by (Ok v) fits = tt
fits_by (Err d) fits = fits d refl

-- the walk over the file with the number n ends where its reading does, and that is told
pub told_by : {T : Type 0} (file n : ℕ) → n ≡ file → (w : Walked) (read : Result T Damage) → ((d : Damage) → read ≡ Err d → w ≡ stopped d.fault d.byte)
    → (a : Answer) → Err a ≡ damage_of n read → damage file w ≡ some a
told_by file n number w (Ok v) stops a h = absurd cc
told_by file n number w (Err d) stops a h =
    let z : Err a ≡ damage_of n (Err d) = h in
    let s : a ≡ Damaged n d.fault d.byte = cc in
    ap (damage file) (stops d refl) ∙ ap (λ (m : ℕ). some (Damaged m d.fault d.byte)) (sym number) ∙ ap some (sym s)

-- what was read of a whole file is handed on
pub whole_by : {T : Type 0} (n : ℕ) (read : Result T Damage) (v : T) → Ok v ≡ damage_of n read → Ok v ≡ read
whole_by n (Ok u) v e = let s : v ≡ u = cc in ap Ok s
whole_by n (Err d) v e = absurd cc

-- ---- both files

module _ (req asg : List ℕ) (p : ArrayVec Circuit) (m : List ℕ) where
  -- r is a refusal that `?` hands on
  refused : (r : Tested) (a : Answer) → IsErrAnd r (λ b. b ≡ a) → (request_fault req else assignment_fault (request req) asg) ≡ some a → LoadsBoth req asg p m r
  refused r a e f =
      let told : found r ≡ some a = handed_on r a e in
      record {
        fault = told ∙ sym f;
        booked = λ n. absurd (let z : some a ≡ none = sym told ∙ n in cc);
        slotted = λ n. absurd (let z : some a ≡ none = sym told ∙ n in cc);
      }

  pub request_refused : (r : Tested) (a : Answer) → IsErrAnd r (λ b. b ≡ a) → request_fault req ≡ some a → LoadsBoth req asg p m r
  unfolding ◌else◌
  request_refused r a e f = refused r a e (rw f refl)

  module _ (fine : request_fault req ≡ none) where
    pub assignment_refused : (r : Tested) (a : Answer) → IsErrAnd r (λ b. b ≡ a) → assignment_fault (request req) asg ≡ some a → LoadsBoth req asg p m r
    unfolding ◌else◌
    assignment_refused r a e f = refused r a e (rw fine f)

    -- v is where the offsets records start
    module _ (v : ArrayVec ℕ) (read : Ok v ≡ places_of (assignment_walk (request req) asg)) where
      pub risings_here : Risings asg v.items
      risings_here =
          let sound = request_sound req fine in
          let many = places_many (request req) asg v read in
          record {
            few = omega (arith, many, sound.circuits);
            each = λ c h. rising_of (booked_here (request req) asg v read c (omega (arith, many))) (sound.path c (omega (arith, many))).short;
          }

      pub both_loaded : Stands (request req) p → MasksOf asg v.items m (length v.items) → LoadsBoth req asg p m (Ok tt)
      unfolding ◌else◌
      both_loaded s o =
          let many = places_many (request req) asg v read in
          record {
            fault = rw fine (sym (file_whole (request req) asg v read));
            booked = λ _. record { stands = s; taken = λ c h. taken_of (booked_here (request req) asg v read c (omega (arith, s.many))) _ (o.each c (omega (arith, many, s.many))) };
            slotted = λ _. record { low = λ c h. rw (cycle_is s h) (below_of (booked_here (request req) asg v read c (omega (arith, s.many))) _ (o.each c (omega (arith, many, s.many))) (o.fits c (omega (arith, many, s.many)))) };
          }
