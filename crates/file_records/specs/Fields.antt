-- What is known of a byte and of a number of two bytes. Assumes nothing: these are definitions.
use Rattle.std.specs.Prelude.{ℕ, ◌<◌, ◌≡◌, List}
use Rattle.model.specs.Sizes.{word_end}
use Rattle.model.specs.Bytes.{byte_at, word_at}

-- r is the byte of s at i
pub record Byte (s : List ℕ) (i r : ℕ) : Type 0 where
  pub is : r ≡ byte_at s i
  pub small : r < 256

-- r is the number of the two bytes of s at i
pub record Word (s : List ℕ) (i r : ℕ) : Type 0 where
  pub is : r ≡ word_at s i
  pub small : r < word_end
