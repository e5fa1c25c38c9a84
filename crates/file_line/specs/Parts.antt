-- Where the lines of a table file stand, and what is known of one. Assumes nothing: these are definitions.
use Rattle.std.specs.Prelude.{ℕ, ◌+◌, ◌*◌, ◌<◌, ◌≡◌, List, length}
use Rattle.std.proofs.Math.Option.{none}
use Rattle.model.specs.Sizes.{head_size, line_size, table_file}
use Rattle.model.specs.Network.{Network}
use Rattle.model.specs.Reading.{table_walk, table}
use Rattle.model.specs.Answers.{damage}

-- the byte where line m starts: each line before it has a head and a body
abbrev pub line_start : ℕ → ℕ
line_start m = (head_size + line_size) * m

-- the file has no fault, and has a line m
pub record LineIn (net : Network) (s : List ℕ) (m : ℕ) : Type 0 where
  pub whole : damage table_file (table_walk net s) ≡ none
  pub low : m < length (table net s)
