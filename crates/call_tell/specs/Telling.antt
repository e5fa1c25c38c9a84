-- The details of an answer as bytes. Assumes nothing: these are definitions.
use Rattle.std.specs.Prelude.{ℕ, ◌/◌, ◌%◌, List, [], ◌∷◌, ◌++◌}
use Rattle.model.specs.Answers.{Told}

-- the area of the details has this length
abbrev pub details_size : ℕ
details_size = 16

-- a number in four bytes, little-endian
abbrev pub long : ℕ → List ℕ
long n = n % 256 ∷ n / 256 % 256 ∷ n / 65536 % 256 ∷ n / 16777216 % 256 ∷ []

abbrev pub detail_bytes : Told → List ℕ
detail_bytes t = long t.first ++ (long t.second ++ (long t.third ++ long t.fourth))
