-- The tests on a line's own numbers. Assumes nothing: these are definitions.
use Rattle.std.specs.Prelude.{ℕ, drop}
use Rattle.model.specs.Tests.{neg}
use Rattle.model.specs.Network.{Network}
use Rattle.model.specs.Reading.{Verdict, judge, bad_in, bad_out, line_rows}

-- behind the three on its place in the file
unfoldable pub line_numbers : (net : Network) (router period slot spare inp out : ℕ) → Verdict
unfolding neg bad_in bad_out
line_numbers net router period slot spare inp out = judge (drop 3 (line_rows net 0 0 0 router period slot spare inp out))
