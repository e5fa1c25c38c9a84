-- What the writer of a file tells. Assumes nothing: these are definitions.
use Rattle.std.specs.Prelude.{ℕ, ◌≡◌, List, length}
use Rattle.model.specs.Bytes.{over}

-- r bytes were written over the area old
pub record Wrote (bytes old new : List ℕ) (r : ℕ) : Type 0 where
  pub area : new ≡ over bytes old
  pub size : r ≡ length bytes
