-- The table that a job writes, by a plan and its masks, and what its writer tells. Assumes nothing: these are definitions.
use Rattle.std.specs.Prelude.{ℕ, ◌+◌, ◌*◌, List, map, length, get_or}
use Rattle.arrayvec.specs.ArrayVec.{ArrayVec}
use Rattle.model.specs.Sizes.{head_size, line_size}
use Rattle.model.specs.Tests.{up_to, joined, sum}
use Rattle.model.specs.Network.{Request}
use Rattle.model.specs.Lines.{lines_for}
use Rattle.model.specs.Jobs.{table_bytes}
use Rattle.model.specs.declared.Send.{Send}
use Rattle.num_mask.specs.Bits.{offsets}
use Rattle.plan.specs.declared.Circuit.{Circuit}
use Rattle.plan.specs.Plan.{CircuitPlan, circuits_in, circuit_in, Booked}
use Rattle.file_writer.specs.Files.{Wrote}
use Rattle.line_record.specs.Record.{line_of, line_record}

-- the line of a circuit's send for one offset, those of all its sends, and those for the offsets of a mask
abbrev pub send_bytes : (x : CircuitPlan) (a : ℕ) → Send → List ℕ
send_bytes x a s = line_record (line_of x.cycle s a)

unfoldable pub offset_bytes : (x : CircuitPlan) (a : ℕ) → List ℕ
offset_bytes x a = joined (map (send_bytes x a) x.sends)

unfoldable pub circuit_bytes : (x : CircuitPlan) (mask : ℕ) → List ℕ
circuit_bytes x mask = joined (map (offset_bytes x) (offsets mask))

-- how long these are, and the whole file
abbrev pub lines_size : (x : CircuitPlan) (mask : ℕ) → ℕ
lines_size x mask = length (offsets mask) * length x.sends * (head_size + line_size)

unfoldable pub table_size : (p : ArrayVec Circuit) (m : List ℕ) → ℕ
table_size p m = head_size + sum (up_to (circuits_in p) (λ c. lines_size (circuit_in p c) (get_or m c 0)))

-- what the writer tells
pub record WroteTable (p : ArrayVec Circuit) (m old new : List ℕ) (r : ℕ) : Type 0 where
  pub wrote : (q : Request) (assigned : List (List ℕ)) → Booked q assigned p m → Wrote (table_bytes (lines_for q assigned)) old new r
