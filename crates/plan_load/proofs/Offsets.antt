-- The offsets of each circuit, by its record in an assignment without a fault. Assumes nothing.
use Prim.Native.Nat.{ℕ, suc, ◌^◌, ◌≤◌, ◌<◌}
use mathlib.Core.Path.{◌≡◌, sym, ◌∙◌}
use mathlib.Core.List.{List, [], ◌∷◌}
use native.Mathlib.Omega.{arith}
use Rattle.model.specs.Sizes.{cycle_most}
use Rattle.model.specs.Network.{Request, circuit_of}
use Rattle.model.specs.Holding.{offsets_of}
use Rattle.model.specs.Search.{Rises}
use Rattle.model.specs.Reading.{offsets_at, assignment}
use Rattle.model.proofs.Sound.{rises_in}
use Rattle.model.proofs.Readers.{offsets_sound}
use Rattle.file_assignment.specs.Parts.{BookedAt}
use Rattle.file_assignment.proofs.Parts.{offsets_are, record_inside}
use Rattle.num_mask.specs.Bits.{offsets}
use Rattle.num_mask.proofs.Laws.{mask_below}
use Rattle.plan_masks.specs.Masks.{Rising}

-- what rises to a bound rises to a higher one
rises_wider : (a d e : ℕ) (os : List ℕ) → d ≤ e → Rises a d os → Rises a e os
rises_wider a d e [] h r = tt
rises_wider a d e (o ∷ os) h r = let l = r.1 in (r.0, omega arith, rises_wider (suc o) d e os h r.2)

module _ {q : Request} {s : List ℕ} {c a : ℕ} (b : BookedAt q s c a) where
  rises_here : Rises 0 (circuit_of q c).cycle (offsets_at s a)
  rises_here = rw (offsets_are q s c a b) at ((offsets_sound q s b.whole).suits c b.low).rises

  pub rising_of : (circuit_of q c).cycle ≤ cycle_most → Rising s a
  rising_of short = record {
    inside = omega (arith, record_inside q s c a b);
    rises = rises_wider 0 (circuit_of q c).cycle cycle_most (offsets_at s a) short rises_here;
  }

  module _ (m : ℕ) (is : offsets m ≡ offsets_at s a) where
    pub taken_of : offsets m ≡ offsets_of (assignment q s) c
    taken_of = is ∙ sym (offsets_are q s c a b)

    pub below_of : m < 2 ^ cycle_most → m < 2 ^ (circuit_of q c).cycle
    below_of fits = mask_below m (circuit_of q c).cycle fits (λ o h. (rises_in 0 (circuit_of q c).cycle (offsets_at s a) rises_here o (rw is at h)).1)
