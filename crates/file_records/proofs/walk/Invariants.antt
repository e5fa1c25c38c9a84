-- `file_records::walk` meets its contract: its loop is the model's walk, turn by turn. Assumes nothing.
use Rattle.file_records.proofs.Walking.{Going}
use Rattle.file_records.proofs.walk.Given as goal

abbrev pub invariant-loop-n : goal.invariant-loop-n
invariant-loop-n g l = Going (goal.F-pre g l.step) (goal.F-post g l.step) (goal.K-post g l.keep) l.initial.kept l.first l.most l.n l.p l.kept
