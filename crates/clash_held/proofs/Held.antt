-- Which slots a circuit holds, by the bits of its mask. Assumes nothing.
use Prim.Native.Nat.{ℕ, zero, ◌+◌, ◌%◌, ◌^◌, ◌<◌}
use mathlib.Core.Path.{◌≡◌, sym, ◌∙◌}
use native.Mathlib.Nat.{mod-eq_of_lt}
use native.Mathlib.Omega.{arith}
use lib.Dec.{T, eqb, eqb→eq}
use Rattle.model.specs.Tests.{◌and◌, any, ◌∈◌}
use Rattle.model.specs.declared.Use.{Use}
use Rattle.model.specs.Holding.{Booking, Holds, holds?}
use Rattle.model.proofs.Tests.{and→, →and, any→, →any, eq→eqb, bool_same}
use Rattle.model.proofs.Divisor.{sub_cong}
use Rattle.model.proofs.Clashing.{holds→, →holds}
use Rattle.model.proofs.Sound.{rises_in}
use Rattle.num_divisor.specs.Common.{IsCycle}
use Rattle.num_mask.specs.Bits.{bit, offsets}
use Rattle.num_mask.proofs.Laws.{offsets_in, offsets_below}
use Rattle.num_cyclic.specs.Ahead.{ahead}
use Rattle.num_cyclic.proofs.Ahead.{ahead_low, ahead_back}
use Rattle.clash_held.specs.Held.{held_by}

-- ---- an offset of the mask comes round in slot t exactly where the bit of the difference is set

-- an offset below the cycle is the difference
only : (cycle t a after : ℕ) → zero < cycle → a < cycle → t % cycle ≡ (a + after) % cycle → ahead cycle t after ≡ a
only cycle t a after pos h e =
    sym (mod-eq_of_lt (ahead_low cycle t after pos))
    ∙ sub_cong cycle (ahead cycle t after) a after pos (ahead_back cycle t after pos ∙ e)
    ∙ mod-eq_of_lt h

pub held_is : (b : Booking) (m t w : ℕ) → IsCycle b.cycle → m < 2 ^ b.cycle → b.offsets ≡ offsets m → held_by b.cycle m t w b.uses ≡ holds? b t w
unfolding held_by
held_is b m t w c low e = bool_same _ _ (λ h. →holds b t w (to (any→ _ b.uses h))) (λ h. back (holds→ b t w h))
  where
    D : ℕ
    D = b.cycle

    to : (u : Use) × (u ∈ b.uses) × T (eqb u.what w and bit m (ahead D t u.after)) → Holds b t w
    to x =
        let u = x.0 in
        let s = and→ _ _ x.2 in
        let l = ahead_low D t u.after c.low in
        record {
          offset = ahead D t u.after;
          booked = rw e ((offsets_in m (ahead D t u.after)).1 (omega (arith, l, c.high), s.1));
          by = u;
          used = x.1;
          same = eqb→eq _ _ s.0;
          slot = sym (ahead_back D t u.after c.low);
        }

    back : Holds b t w → T (any (λ u. eqb u.what w and bit m (ahead D t u.after)) b.uses)
    back h =
        let a = h.offset in
        let i : a ∈ offsets m = rw e at h.booked in
        let below = (rises_in 0 D (offsets m) (offsets_below m D low) a i).1 in
        →any _ h.used
        (→and _ _ (eq→eqb h.same) (rw (only D t a h.by.after c.low below h.slot) ((offsets_in m a).0 i).1))
