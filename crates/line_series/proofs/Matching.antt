-- Laws of a line held against the slots of a series: period and slot are what was read of it. Assumes nothing.
use Rattle.std.proofs.Common.{◌≡◌, ℕ, ◌%◌, ◌<◌, refl, sym, ap, ◌∙◌, arith}
use native.Mathlib.Nat.{mod_self, mod-eq_of_lt}
use borrow.Author.Tests.{eq-eqb, ne_eqb}
use lib.Dec.{eqb}
use Rattle.model.specs.Tests.{◌and◌}
use Rattle.model.specs.Divisor.{gcd}
use Rattle.model.specs.declared.Line.{Line}
use Rattle.model.proofs.Divisor.{gcd_step, gcd-zero}
use Rattle.num_divisor.specs.Common.{Common}
use Rattle.line_series.specs.Matching.{agrees, covers}

gcd_self : (a : ℕ) → gcd a a ≡ a
gcd_self a = gcd_step a a ∙ ap (gcd a) (mod_self a) ∙ gcd-zero a

module _ (cycle start : ℕ) (l : Line) {period slot : ℕ} (pe : period ≡ l.period) (se : slot ≡ l.slot) where
  pub agrees_here : {g : ℕ} → Common cycle period g → eqb (start % g) (slot % g) ≡ agrees cycle start l
  unfolding agrees
  agrees_here c = rw (← pe, ← se, ← c.is) refl

  pub agrees_same : {early : ℕ} → early ≡ start % cycle → period ≡ cycle → l.slot < l.period → eqb early slot ≡ agrees cycle start l
  unfolding agrees
  agrees_same s e h =
      let below : slot < cycle = omega arith in
      let whole : gcd cycle l.period ≡ cycle = ap (gcd cycle) (sym pe ∙ e) ∙ gcd_self cycle in
      rw (s, whole, ← se, mod-eq_of_lt below) refl

  pub covers_here : cycle % period ≡ 0 → eqb (start % period) slot ≡ covers cycle start l
  unfolding covers ◌and◌
  covers_here h = rw (← pe, ← se, eq-eqb (cycle % period) 0 h) refl

module _ (cycle start : ℕ) (l : Line) {period : ℕ} (pe : period ≡ l.period) where
  pub covers_not : (cycle % period ≡ 0 → ⊥) → eqb (cycle % period) 0 ≡ covers cycle start l
  unfolding covers ◌and◌
  covers_not h = rw (← pe, ne_eqb (cycle % period) 0 h) refl
