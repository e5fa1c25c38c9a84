-- The line that a send needs, and the record of a line. Assumes nothing: these are definitions.
use Rattle.std.specs.Prelude.{ℕ, ◌+◌, ◌%◌, List}
use Rattle.model.specs.Sizes.{line_kind}
use Rattle.model.specs.Bytes.{record_of}
use Rattle.model.specs.Jobs.{line_body}
use Rattle.model.specs.declared.Line.{Line}
use Rattle.model.specs.declared.Send.{Send}

-- the line of a send of a circuit with this cycle, with offset a
abbrev pub line_of : (cycle : ℕ) → Send → (a : ℕ) → Line
line_of cycle s a = record { router = s.router; period = cycle; slot = ((a + s.after) % cycle); inp = s.inp; out = s.out }

-- the record of a line
abbrev pub line_record : Line → List ℕ
line_record l = record_of line_kind (line_body l)
