-- What a call from C hands back: the number, and the details in an area of their own. Assumes nothing: these are definitions.
use Rattle.std.specs.Prelude.{ℕ, ◌≡◌, cond, List, eqb, length}
use Rattle.model.specs.Answers.{told}
use Rattle.model.specs.Jobs.{Call, result_of}
use Rattle.call_tell.specs.Telling.{details_size, detail_bytes}

-- what is returned where the area of the details has another length
abbrev pub too_short : ℕ
too_short = 17

pub record Faced : Type 0 where
  pub number : ℕ
  pub area : List ℕ
  pub details : List ℕ

-- the answer of the call; but an area of details of another length gets the number 17 before all else, and then nothing is written
unfoldable pub faced : Call → List ℕ → List ℕ → Faced
faced call old details = cond (eqb (length details) details_size)
    (record { number = (told (result_of call).answer).number; area = (result_of call).area; details = detail_bytes (told (result_of call).answer) })
    (record { number = too_short; area = old; details = details })

-- the contract of a call from C: the number r, the output area and the details after it
pub record Face (call : Call) (old before : List ℕ) (r : ℕ) (new after : List ℕ) : Type 0 where
  pub number : r ≡ (faced call old before).number
  pub area : new ≡ (faced call old before).area
  pub details : after ≡ (faced call old before).details
