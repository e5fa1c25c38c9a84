-- How far one number is ahead of another, modulo a third: what it says of sums. Assumes nothing.
use Prim.Native.Nat.{ℕ, zero, suc, ◌+◌, ◌-◌, ◌/◌, ◌%◌, ◌<◌}
use mathlib.Core.Path.{◌≡◌, refl, sym, ap, ◌∙◌}
use mathlib.Core.Bool.{Bool, true, false}
use native.Mathlib.Nat.{mod-add-mod, mod-mod, mod-eq_of_lt, add-mul-mod_self_right, mod-lt, mod-add-div', zero-add}
use native.Mathlib.Omega.{arith}
use borrow.Author.Tests.{eq-eqb, ne_eqb, eqb-true, eqb-false}
use lib.Dec.{eqb}
use Rattle.model.proofs.Divisor.{add_cong, sub_cong}
use Rattle.num_cyclic.specs.Ahead.{ahead}

-- two tests of equality that say the same
eqb_same : (x y z w : ℕ) → (x ≡ y → z ≡ w) → (z ≡ w → x ≡ y) → eqb x y ≡ eqb z w
eqb_same x y z w to back = pick (eqb x y) refl
  where
    pick : (b : Bool) → eqb x y ≡ b → eqb x y ≡ eqb z w
    pick true e = e ∙ sym (eq-eqb z w (to (eqb-true x y e)))
    pick false e = e ∙ sym (ne_eqb z w (λ h. eqb-false x y e (back h)))

module _ (g a b : ℕ) (pos : zero < g) where
  pub ahead_low : ahead g a b < g
  ahead_low = mod-lt _ pos

  -- going back by b leads from the difference to a
  pub ahead_back : (ahead g a b + b) % g ≡ a % g
  ahead_back =
      mod-add-mod (a % g + (g - b % g)) g b
      ∙ ap (λ z. z % g) (omega (arith, mod-lt b pos, mod-add-div' b g))
      ∙ add-mul-mod_self_right (a % g) (suc (b / g)) g
      ∙ mod-mod a g

  -- numbers that are added to both sides may be compared at the difference
  pub ahead_same : (u v : ℕ) → eqb ((a + u) % g) ((b + v) % g) ≡ eqb ((ahead g a b + u) % g) (v % g)
  ahead_same u v = eqb_same _ _ _ _ to back
    where
      d : ℕ
      d = ahead g a b

      moved : (d + u + b) % g ≡ (a + u) % g
      moved = ap (λ z. z % g) (omega arith) ∙ add_cong g (d + b) a u ahead_back

      to : (a + u) % g ≡ (b + v) % g → (d + u) % g ≡ v % g
      to e = sub_cong g (d + u) v b pos (moved ∙ e ∙ ap (λ z. z % g) (omega arith))

      back : (d + u) % g ≡ v % g → (a + u) % g ≡ (b + v) % g
      back e = sym moved ∙ add_cong g (d + u) v b e ∙ ap (λ z. z % g) (omega arith)

-- the one difference at which u and v meet
pub ahead_only : (g x u v : ℕ) → x < g → eqb ((x + u) % g) ((0 + v) % g) ≡ eqb x (ahead g v u)
ahead_only g x u v h = eqb_same _ _ _ _ to back
  where
    pos : zero < g
    pos = omega arith

    to : (x + u) % g ≡ (0 + v) % g → x ≡ ahead g v u
    to e =
        sym (mod-eq_of_lt h)
        ∙ sub_cong g x (ahead g v u) u pos (e ∙ ap (λ z. z % g) (zero-add v) ∙ sym (ahead_back g v u pos))
        ∙ mod-eq_of_lt (ahead_low g v u pos)

    back : x ≡ ahead g v u → (x + u) % g ≡ (0 + v) % g
    back e = ap (λ z. (z + u) % g) e ∙ ahead_back g v u pos ∙ ap (λ z. z % g) (sym (zero-add v))
