-- A test behind another, as the model has it. Assumes nothing.
use Prim.Native.Nat.{ℕ}
use mathlib.Core.Path.{◌≡◌, refl}
use mathlib.Core.List.{List}
use Rattle.std.specs.Prelude.{Ok, Err}
use Rattle.arrayvec.specs.ArrayVec.{ArrayVec}
use Rattle.model.specs.Tests.{◌else◌}
use Rattle.model.specs.declared.Answer.{Answer}
use Rattle.plan.specs.declared.Circuit.{Circuit}
use Rattle.plan_refusal.specs.Found.{Tested}
use Rattle.plan_refusal.proofs.Firsts.{found-none, found-some}
use Rattle.clash_first.specs.First.{FirstIs}
use Rattle.line_check.specs.Checks.{LinesFaultIs}
use Rattle.call_verify.specs.Verify.{FaultIs}

module _ (p : ArrayVec Circuit) (m t : List ℕ) (lines : ℕ) (r : Tested) (clash : FirstIs p m r) where
  pub clash_found : (a : Answer) → r ≡ Err a → FaultIs p m t lines (Err a)
  unfolding ◌else◌
  clash_found a h q assigned f = rw (← clash q assigned f.booked, found-some r a h) refl

  pub lines_found : (s : Tested) → r ≡ Ok tt → LinesFaultIs p m t lines s → FaultIs p m t lines s
  unfolding ◌else◌
  lines_found s h last q assigned f = rw (← clash q assigned f.booked, found-none r h) (last q assigned f)
