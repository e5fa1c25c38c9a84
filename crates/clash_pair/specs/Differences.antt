-- How differences of offsets tell clashes. Assumes nothing: these are definitions.
use Rattle.std.specs.Prelude.{ℕ, ◌<◌, ◌≡◌, Bool, ◌||◌, List}
use Rattle.model.specs.Tests.{any}
use Rattle.model.specs.declared.Use.{Use}
use Rattle.model.specs.Holding.{meet?}
use Rattle.num_mask.specs.Bits.{bit, offsets}
use Rattle.num_cyclic.specs.Ahead.{ahead}

-- ---- the differences at which uses meet

-- r has the bits of m, and below g those that pass
pub record Marks (m r g : ℕ) (p : ℕ → Bool) : Type 0 where
  pub bits : (d : ℕ) → d < g → bit r d ≡ (bit m d || p d)

-- a use u meets one of the uses l where its circuit is d ahead, modulo g
unfoldable pub meets_any : ℕ → Use → List Use → ℕ → Bool
unfolding meet?
meets_any g u l d = any (meet? g d u 0) l

-- a use of l meets one of m where l's circuit is d ahead, modulo g
unfoldable pub any_meets : ℕ → List Use → List Use → ℕ → Bool
unfolding meets_any
any_meets g l m d = any (λ u. meets_any g u m d) l

-- r has the bits of m, and those at which the use u meets one of l
pub record MarksUse (u : Use) (l : List Use) (g m r : ℕ) : Type 0 where
  pub marks : Marks m r g (meets_any g u l)

-- below g the bits of r are the differences at which a use of l meets one of m
pub record Bad (g : ℕ) (l m : List Use) (r : ℕ) : Type 0 where
  pub bits : (d : ℕ) → d < g → bit r d ≡ any_meets g l m d

-- ---- offsets by the differences that clash

-- offset a against each offset of a set; and each offset of one set against each of another
unfoldable pub one_hits : ℕ → ℕ → ℕ → ℕ → Bool
one_hits bad g a m = any (λ b. bit bad (ahead g a b)) (offsets m)

unfoldable pub hits_any : ℕ → ℕ → ℕ → ℕ → Bool
unfolding one_hits
hits_any bad g l m = any (λ a. one_hits bad g a m) (offsets l)
