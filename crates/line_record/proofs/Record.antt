-- A line's record: how long it is, and that the line is the model's for the request that the plan stands for. Assumes nothing.
use Rattle.std.proofs.Common.{ℕ, ◌+◌, ◌≡◌, length, refl}
use Rattle.model.specs.Sizes.{head_size, line_size}
use Rattle.model.specs.Bytes.{record_of}
use Rattle.model.specs.Network.{Request, circuit_of, send}
use Rattle.model.specs.Lines.{series, line_for}
use Rattle.model.specs.declared.Line.{Line}
use Rattle.line_record.specs.Record.{line_of, line_record}

pub line_record-length : (l : Line) → length (line_record l) ≡ head_size + line_size
unfolding record_of
line_record-length l = refl

-- the line of send j of circuit c is the one that its series needs
pub line_of-is : (q : Request) (c a j : ℕ) → line_of (circuit_of q c).cycle (send q.network (circuit_of q c) j) a ≡ line_for (series q c a j)
unfolding series line_for
line_of-is q c a j = refl
