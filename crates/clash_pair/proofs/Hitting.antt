-- When two circuits clash, by their differences. Assumes nothing.
use Prim.Native.Nat.{ℕ, zero, ◌<◌}
use mathlib.Core.Path.{◌≡◌, refl, sym, ap, ◌∙◌, fun_ext}
use mathlib.Core.Bool.{Bool, false}
use mathlib.Core.List.{List, [], ◌∷◌}
use Rattle.model.specs.Divisor.{gcd}
use Rattle.model.specs.Tests.{any}
use Rattle.model.specs.Holding.{Booking, offsets_clash?, clashes?}
use Rattle.model.proofs.Divisor.{gcd_pos}
use Rattle.num_mask.specs.Bits.{bit, offsets}
use Rattle.num_mask.proofs.Laws.{bit-none}
use Rattle.num_cyclic.specs.Ahead.{ahead}
use Rattle.clash_pair.specs.Differences.{meets_any, any_meets, Bad, one_hits, hits_any}
use Rattle.num_cyclic.proofs.Ahead.{ahead_low}
use Rattle.clash_pair.proofs.Ahead.{clash_ahead}

-- below the common divisor the marked differences are those at which an offset clashes with 0, so that any two offsets are told by them
pub bad_clash : (p q : Booking) (g bad : ℕ) → zero < p.cycle → g ≡ gcd p.cycle q.cycle → Bad g p.uses q.uses bad
    → (a b : ℕ) → bit bad (ahead g a b) ≡ offsets_clash? p a q b
unfolding any_meets meets_any offsets_clash?
bad_clash p q g bad pos e m a b =
    m.bits (ahead g a b) (ahead_low g a b (rw e (gcd_pos p.cycle q.cycle pos)))
    ∙ rw e (sym (clash_ahead p q a b pos))

pub hits_clashes : (p q : Booking) (g bad l m : ℕ) → zero < p.cycle → g ≡ gcd p.cycle q.cycle → Bad g p.uses q.uses bad
    → p.offsets ≡ offsets l → q.offsets ≡ offsets m → hits_any bad g l m ≡ clashes? p q
unfolding clashes? hits_any one_hits offsets_clash?
hits_clashes p q g bad l m pos e d lp mq =
    rw (lp, mq) (ap (λ f. any f (offsets l)) (fun_ext (λ a. ap (λ f. any f (offsets m)) (fun_ext (λ b. bad_clash p q g bad pos e d a b)))))

-- where no difference is marked nothing clashes
pub no_hits : (g l m : ℕ) → hits_any 0 g l m ≡ false
unfolding hits_any one_hits any
no_hits g l m = never (offsets l) (λ a. never (offsets m) (λ b. bit-none (ahead g a b)))
  where
    never : {p : ℕ → Bool} (xs : List ℕ) → ((x : ℕ) → p x ≡ false) → any p xs ≡ false
    never [] e = refl
    never (x ∷ xs) e = rw (e x) (never xs e)
