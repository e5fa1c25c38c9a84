-- `Series::meeting` meets its contract. The loop's invariant: what was seen of the lines so far. Assumes nothing.
use mathlib.Core.Path.{◌≡◌}
use Rattle.line_series.specs.Judging.{met_of}
use Rattle.line_series.proofs.Series.meeting.Given as goal

abbrev pub invariant-loop-m : goal.invariant-loop-m
invariant-loop-m l = l.met ≡ met_of l.table.bytes.now l.slots.cycle.slots l.slots.start l.yielded
