-- The tests on the numbers of a circuit record, by its bytes. Assumes nothing: these are definitions.
use Rattle.std.specs.Prelude.{ℕ, List}
use Rattle.model.specs.Bytes.{length_at}
use Rattle.model.specs.Reading.{Verdict, have, cycle_at, demand_at, hops_at, circuit_head}

-- of the record at p of the file s, behind n others
abbrev pub head_verdict : List ℕ → ℕ → ℕ → Verdict
head_verdict s n p = circuit_head n (have s p) (length_at s p) (cycle_at s p) (demand_at s p) (hops_at s p)
