-- What the area of the details holds once its four numbers are laid into it. Assumes nothing.
use Rattle.std.proofs.Common.{ℕ, ◌≤◌, ◌≡◌, List, [], ◌∷◌, ◌++◌, map, length, drop_of_length-le, arith, ap, ◌∙◌}
use Rattle.model.specs.Tests.{joined}
use Rattle.model.specs.Bytes.{over}
use Rattle.model.specs.Answers.{told}
use Rattle.model.specs.declared.Answer.{Answer}
use Rattle.call_answer.specs.Handed.{handed}
use Rattle.call_answer.specs.declared.Details.{Details}
use Rattle.file_writer.specs.Pasting.{Laid}
use Rattle.file_writer.proofs.Pastes.{pasted-over}
use Rattle.call_tell.specs.Telling.{details_size, long, detail_bytes}

abbrev pub numbers : Details → List ℕ
numbers s = s.first ∷ s.second ∷ s.third ∷ s.fourth ∷ []

-- an area that is written over from the front to its end
whole : (out bytes : List ℕ) → length out ≤ length bytes → over bytes out ≡ bytes ++ []
unfolding over
whole out bytes h = ap (λ l. bytes ++ l) (drop_of_length-le out h)

pub details_told : {old new : List ℕ} {r : ℕ} (s : Details) (a : Answer) → s ≡ handed a → length old ≡ details_size → Laid old 0 (joined (map long (numbers s))) new r
    → new ≡ detail_bytes (told a)
unfolding joined
details_told {old} s a e n l = l.area ∙ pasted-over old _ ∙ whole old _ (omega arith) ∙ ap (λ (x : Details). long x.first ++ (long x.second ++ (long x.third ++ long x.fourth))) e
