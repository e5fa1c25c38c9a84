-- What the code's tests and sums tell about a plan's numbers, each from just what it uses. Assumes nothing.
use Rattle.std.proofs.Common.{ℕ, ◌+◌, ◌-◌, ◌*◌, ◌≤◌, ◌<◌, ◌≡◌, arith}
use Rattle.model.specs.Sizes.{cycle_most}

pub next_le : {a d : ℕ} → a < d → a + 1 ≤ d
next_le l = omega arith

-- the measure of a cell behind `from`
pub cell_falls : (k : ℕ) {t from a : ℕ} → k * 64 + (cycle_most - from) ≡ t → from ≤ a → a < cycle_most → k * 64 + (cycle_most - (a + 1)) < t
cell_falls k e h l = omega arith

-- ---- what the tests tell, where the code's numbers are the plan's

module _ {cycle d : ℕ} (same : cycle ≡ d) where
  pub before_end : {r : ℕ} → r ≤ cycle → (r ≡ cycle → ⊥) → r < d
  before_end h l = omega arith

  pub at_end : {a : ℕ} → cycle ≤ a → d ≤ a
  at_end h = omega arith

  module _ {demand n : ℕ} (alike : demand ≡ n) where
    pub must_take : (have a : ℕ) → cycle + have ≤ demand + a → d + have ≤ n + a
    must_take have a h = omega arith

    pub may_skip : (have a : ℕ) → demand + a < cycle + have → n + a < d + have
    may_skip have a h = omega arith

pub more_wanted : {demand n have : ℕ} → demand ≡ n → have < demand → have < n
more_wanted e h = omega arith
