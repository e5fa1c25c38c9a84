-- One answer only, for the calls from C: two results that satisfy `Face` of one call, for one output area and one area of details before it,
-- agree in the number, the output area and the bytes of the details. Assumes nothing.
use mathlib.Core.Path.{◌≡◌, sym, ◌∙◌}
use mathlib.Core.List.{List}
use Prim.Native.Nat.{ℕ}
use Rattle.model.specs.Jobs.{Call}
use Rattle.boot.specs.Face.{Face}

pub one_face : (call : Call) (old before : List ℕ) {r r' : ℕ} {new new' after after' : List ℕ} →
    Face call old before r new after → Face call old before r' new' after' → (r ≡ r') × (new ≡ new') × (after ≡ after')
one_face call old before f f' = (f.number ∙ sym f'.number, f.area ∙ sym f'.area, f.details ∙ sym f'.details)
