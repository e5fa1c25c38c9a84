-- Whether two offsets clash depends only on how far one is ahead of the other, modulo the common divisor. Assumes nothing.
use Prim.Native.Nat.{ℕ, zero, ◌+◌, ◌%◌, ◌<◌}
use mathlib.Core.Path.{◌≡◌, sym, ap, ◌∙◌, fun_ext}
use native.Mathlib.Nat.{zero-add}
use lib.Dec.{eqb}
use Rattle.model.specs.Divisor.{gcd}
use Rattle.model.specs.Tests.{◌and◌, any}
use Rattle.model.specs.declared.Use.{Use}
use Rattle.model.specs.Holding.{Booking, meet?, offsets_clash?}
use Rattle.model.proofs.Divisor.{gcd_pos}
use Rattle.num_cyclic.specs.Ahead.{ahead}
use Rattle.num_cyclic.proofs.Ahead.{ahead_same}

-- the test of two offsets is that of their difference and 0
pub clash_ahead : (p q : Booking) (a b : ℕ) → zero < p.cycle → offsets_clash? p a q b ≡ offsets_clash? p (ahead (gcd p.cycle q.cycle) a b) q 0
unfolding offsets_clash? meet?
clash_ahead p q a b pos =
    ap (λ f. any f p.uses) (fun_ext (λ u. ap (λ f. any f q.uses) (fun_ext (λ v. same u v))))
  where
    g : ℕ
    g = gcd p.cycle q.cycle

    same : (u v : Use) → (eqb u.what v.what and eqb ((a + u.after) % g) ((b + v.after) % g))
        ≡ (eqb u.what v.what and eqb ((ahead g a b + u.after) % g) ((0 + v.after) % g))
    same u v =
        ap (λ t. eqb u.what v.what and t)
        (ahead_same g a b (gcd_pos p.cycle q.cycle pos) u.after v.after ∙ ap (λ z. eqb ((ahead g a b + u.after) % g) (z % g)) (sym (zero-add v.after)))
