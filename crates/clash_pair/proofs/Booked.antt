-- Two bookings clash where their differences say so. Assumes nothing.
use Prim.Native.Nat.{ℕ, ◌≤◌}
use mathlib.Core.Path.{◌≡◌, refl, sym, ap, ◌∙◌}
use mathlib.Core.Bool.{false}
use Rattle.model.specs.Holding.{clashes?}
use Rattle.num_divisor.specs.Common.{Common}
use Rattle.plan.specs.Plan.{CircuitPlan, claim}
use Rattle.clash_pair.specs.Differences.{Bad, hits_any}
use Rattle.clash_pair.proofs.Hitting.{hits_clashes, no_hits}

module _ (x y : CircuitPlan) (l m : ℕ) {g bad : ℕ} (pos : 1 ≤ x.cycle) (common : Common x.cycle y.cycle g) (b : Bad g x.uses y.uses bad) where
  pub pair_is : hits_any bad g l m ≡ clashes? (claim x l) (claim y m)
  pair_is = hits_clashes (claim x l) (claim y m) g bad l m pos common.is b refl refl

  pub pair_never : bad ≡ 0 → clashes? (claim x l) (claim y m) ≡ false
  pair_never z = sym pair_is ∙ ap (λ w. hits_any w g l m) z ∙ no_hits g l m
