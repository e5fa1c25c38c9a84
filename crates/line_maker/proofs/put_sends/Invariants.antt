-- `line_maker::put_sends` meets its contract. Each turn lays in one line. Assumes nothing.
use Rattle.std.proofs.Common.{map}
use Rattle.std.specs.Slice.Iter.{iter_rest}
use Rattle.model.specs.Tests.{joined}
use Rattle.plan.specs.Plan.{shown}
use Rattle.file_writer.proofs.Rest.{Rest}
use Rattle.line_maker.specs.Files.{send_bytes, offset_bytes}
use Rattle.line_maker.proofs.put_sends.Given as goal

abbrev pub invariant-loop-send : goal.invariant-loop-send
invariant-loop-send l =
    Rest l.initial.out l.at (offset_bytes (shown l.circuit) l.offset) l.out l.next
    (joined (map (send_bytes (shown l.circuit) l.offset) (iter_rest l.send-iterator)))
