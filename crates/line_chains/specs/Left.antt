-- The lines that are left of those at an inport. Assumes nothing: these are definitions.
use Rattle.std.specs.Prelude.{ℕ, List}
use Rattle.line_chains.specs.Chains.{lines_from}
use Rattle.line_chains.specs.declared.lines_at.LinesAt.{LinesAt}

abbrev pub left : LinesAt → List ℕ
left s = lines_from s.table.now.bytes.now s.table.now.lines s.port s.line
