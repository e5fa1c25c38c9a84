-- Circuits whose sets of resources are apart never clash. Assumes nothing.
use Prim.Native.Nat.{ℕ, ◌≤◌}
use mathlib.Core.Path.{◌≡◌}
use mathlib.Core.Bool.{true, false}
use mathlib.Core.List.{List, [], ◌∷◌}
use mathlib.Core.List.Memᴰ
use mathlib.Core.Logic.{◌⊎◌, inl, inr}
use native.Mathlib.Omega.{arith}
use lib.Dec.{T}
use Rattle.std.specs.List.{All}
use Rattle.std.proofs.lemmas.List.Elements.{All-tail}
use Rattle.model.specs.Tests.{◌∈◌}
use Rattle.model.specs.declared.Use.{Use}
use Rattle.model.specs.Holding.{Booking, Holds, Clash, clashes?}
use Rattle.model.proofs.Tests.{bool_same}
use Rattle.model.proofs.Clashing.{clashes→}
use Rattle.clash_sets.specs.Sets.{InSet, Collected, apart?}
use Rattle.clash_sets.proofs.Sets.{apart_none}

-- what a circuit holds is in its set
held_in : {p : Booking} {words : List ℕ} {t w : ℕ} → Collected p.uses words → Holds p t w → InSet words w
held_in {p} {words} c h = rw h.same at (go p.uses c.all h.used)
  where
    go : (l : List Use) {u : Use} → All (λ u. InSet words u.what) l → u ∈ l → InSet words u.what
    go [] a m = absurd (Memᴰ.not-nil m)
    go (x ∷ l) {u} a m = either (Memᴰ.cases_cons m) (λ k. go l (All-tail (λ v. InSet words v.what) x l a) k)
      where
        either : (u ≡ x) ⊎ (u ∈ l) → (u ∈ l → InSet words u.what) → InSet words u.what
        either (inl e) later = rw e (a 0 x (omega arith))
        either (inr k) later = later k

pub apart_never : (p q : Booking) {xs ys : List ℕ} → 1 ≤ p.cycle → 1 ≤ q.cycle → Collected p.uses xs → Collected q.uses ys → apart? xs ys ≡ true → clashes? p q ≡ false
apart_never p q hp hq cp cq apart = bool_same _ _ (λ t. never (clashes→ p q hp hq t)) (λ t. absurd t)
  where
    never : Clash p q → T false
    never x = apart_none apart (held_in cp x.left) (held_in cq x.right)
