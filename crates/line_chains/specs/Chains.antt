-- Lines in chains by their inports: the lines with an inport, and what `link` asks and tells. Assumes nothing: these are definitions.
use Rattle.std.specs.Prelude.{ℕ, ◌+◌, ◌-◌, ◌≤◌, ◌<◌, ◌≡◌, Bool, List, get_or, eqb}
use Rattle.std.specs.List.{filter, range_with_len}
use Rattle.model.specs.Sizes.{lines_most, resources_most}
use Rattle.model.specs.declared.Line.{Line}
use Rattle.model.specs.Reading.{line_at}
use Rattle.num_divisor.specs.Common.{IsCycle}
use Rattle.file_line.specs.Parts.{line_start}
use Rattle.plan.specs.Ports.{port_of}

-- the numbers from i on, below n, that pass
unfoldable pub numbers : (p : ℕ → Bool) (n i : ℕ) → List ℕ
numbers p n i = filter p (range_with_len i (n - i))

-- ---- the inports of lines

-- line m of a table file
abbrev pub line_in : List ℕ → ℕ → Line
line_in t m = line_at t (line_start m)

unfoldable pub port_at : List ℕ → ℕ → ℕ
port_at t m = port_of (line_in t m).router (line_in t m).inp

-- line m has this port
abbrev pub has : List ℕ → ℕ → ℕ → Bool
has t port m = eqb (port_at t m) port

-- of so many lines those that have this port, from line i on
abbrev pub lines_from : (t : List ℕ) (lines port i : ℕ) → List ℕ
lines_from t lines port i = numbers (has t port) lines i

abbrev pub lines_at : (t : List ℕ) (lines port : ℕ) → List ℕ
lines_at t lines port = lines_from t lines port 0

-- ---- what the code asks of the lines of a file, and what it makes of them

pub record Tabled (t : List ℕ) (lines : ℕ) : Type 0 where
  pub few : lines ≤ lines_most
  pub port : (m : ℕ) → m < lines → port_at t m < resources_most
  pub period : (m : ℕ) → m < lines → IsCycle (line_in t m).period
  pub slot : (m : ℕ) → m < lines → (line_in t m).slot < (line_in t m).period

-- the chains of the lines from m on: the first line of each inport, and the next of each line; where there is none, how many lines there are
pub record Chained (t : List ℕ) (lines m : ℕ) (heads nexts : List ℕ) : Type 0 where
  pub first : (k : ℕ) → k < resources_most → get_or heads k 0 ≡ get_or (lines_from t lines k m) 0 lines
  pub onward : (x : ℕ) → m ≤ x → x < lines → get_or nexts x 0 ≡ get_or (lines_from t lines (port_at t x) (x + 1)) 0 lines
