-- A line held against the slots start, start + cycle, .. Assumes nothing: these are definitions.
use Rattle.std.specs.Prelude.{ℕ, ◌%◌, Bool, eqb}
use Rattle.model.specs.Divisor.{gcd}
use Rattle.model.specs.Tests.{◌and◌}
use Rattle.model.specs.declared.Line.{Line}

-- some slot matches the line; and every slot does
unfoldable pub agrees : (cycle start : ℕ) → Line → Bool
agrees cycle start l = let g = gcd cycle l.period in eqb (start % g) (l.slot % g)

unfoldable pub covers : (cycle start : ℕ) → Line → Bool
covers cycle start l = eqb (cycle % l.period) 0 and eqb (start % l.period) l.slot
