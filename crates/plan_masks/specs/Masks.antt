-- The offsets of an assignment file as masks. Assumes nothing: these are definitions.
use Rattle.std.specs.Prelude.{ℕ, ◌+◌, ◌^◌, ◌≤◌, ◌<◌, ◌≡◌, List, length, get_or}
use Rattle.model.specs.Sizes.{circuits_most, cycle_most, head_size}
use Rattle.model.specs.Bytes.{length_at}
use Rattle.model.specs.Search.{Rises}
use Rattle.model.specs.Reading.{offsets_at}
use Rattle.num_mask.specs.Bits.{offsets}

-- the record that starts at byte p of s lies in the file, and its offsets rise and are below a longest cycle
pub record Rising (s : List ℕ) (p : ℕ) : Type 0 where
  pub inside : p + head_size + length_at s p ≤ length s
  pub rises : Rises 0 cycle_most (offsets_at s p)

-- such records, which start at these bytes
pub record Risings (s starts : List ℕ) : Type 0 where
  pub few : length starts ≤ circuits_most
  pub each : (c : ℕ) → c < length starts → Rising s (get_or starts c 0)

-- the first n masks have just the offsets of those records, and no bits besides
pub record MasksOf (s starts masks : List ℕ) (n : ℕ) : Type 0 where
  pub each : (c : ℕ) → c < n → offsets (get_or masks c 0) ≡ offsets_at s (get_or starts c 0)
  pub fits : (c : ℕ) → c < n → get_or masks c 0 < 2 ^ cycle_most
