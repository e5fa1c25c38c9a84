-- What allocation does in the words of its job. Assumes nothing.
use Prim.Native.Nat.{ℕ}
use mathlib.Core.Path.{refl, sym}
use mathlib.Core.List.{List}
use Rattle.std.specs.declared.result.Result.TheVariants.{Ok, Err}
use Rattle.arrayvec.specs.ArrayVec.{ArrayVec}
use Rattle.model.specs.Tests.{◌else◌}
use Rattle.model.specs.Reading.{request}
use Rattle.model.specs.Jobs.{Contract, allot, allocate}
use Rattle.model.specs.declared.Answer.{Answer}
use Rattle.plan.specs.declared.Circuit.{Circuit}
use Rattle.plan_load.specs.Loaded.{Loads}
use Rattle.call_allot.specs.Allot.{Allots}
use Rattle.vaskunoor.proofs.Loading.{met}

module _ (s : List ℕ) (p : ArrayVec Circuit) (budget : ℕ) (old : List ℕ) where
  pub allot_unread : (a : Answer) → Loads s p (Err a) → Contract (allot s budget old) a old
  unfolding allocate ◌else◌
  allot_unread a l = met (allot s budget old) (rw (sym l.fault) refl)

  module _ (l : Loads s p (Ok tt)) where
    pub allot_told : (a : Answer) (new : List ℕ) → Allots p budget old a new → Contract (allot s budget old) a new
    unfolding allocate ◌else◌
    allot_told a new is = met (allot s budget old) (rw (sym l.fault) (is.is (request s) (l.stands refl)))
