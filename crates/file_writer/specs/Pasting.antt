-- Bytes laid into an area from a place on. Assumes nothing: these are definitions.
use Rattle.std.specs.Prelude.{ℕ, ◌+◌, ◌≡◌, List, ◌++◌, length, take, drop}

-- the area with new bytes from `at` on, and its old ones before and behind them
unfoldable pub pasted : List ℕ → ℕ → List ℕ → List ℕ
pasted out at bytes = take at out ++ bytes ++ drop (at + length bytes) out

-- they are laid in, and r is the place behind them
pub record Laid (out₀ : List ℕ) (at : ℕ) (bytes out : List ℕ) (r : ℕ) : Type 0 where
  pub area : out ≡ pasted out₀ at bytes
  pub next : r ≡ at + length bytes
