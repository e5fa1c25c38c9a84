-- What a call hands back once its answer is told, or once it is refused. Assumes nothing.
use Prim.Native.Nat.{ℕ}
use mathlib.Core.Path.{◌≡◌, refl, ap, ◌∙◌}
use mathlib.Core.List.{List}
use borrow.Author.Tests.{eq-eqb, ne_eqb}
use lib.ListN.{length}
use Rattle.model.specs.Answers.{told}
use Rattle.model.specs.Jobs.{Call, Contract}
use Rattle.model.specs.declared.Answer.{Answer}
use Rattle.call_tell.specs.Telling.{details_size, detail_bytes}
use Rattle.boot.specs.Face.{too_short, faced, Face}

-- the call answered, and its answer was told
pub answered : (call : Call) (old before : List ℕ) (r : ℕ) (new after : List ℕ) (a : Answer) → length before ≡ details_size →
    Contract call a new → r ≡ (told a).number → after ≡ detail_bytes (told a) → Face call old before r new after
unfolding faced
answered call old before r new after a same k n d =
    let h = eq-eqb (length before) details_size same in
    record {
      number = rw h (n ∙ ap (λ x. (told x).number) k.answer);
      area = rw h k.area;
      details = rw h (d ∙ ap (λ x. detail_bytes (told x)) k.answer);
    }

-- the area of the details has another length
pub refused : (call : Call) (old before : List ℕ) → (length before ≡ details_size → ⊥) → Face call old before too_short old before
unfolding faced
refused call old before other =
    let h = ne_eqb (length before) details_size other in
    record { number = rw h refl; area = rw h refl; details = rw h refl }
