-- `line_maker::put_circuit` meets its contract. Each turn lays in the lines of one offset. Assumes nothing.
use Rattle.std.proofs.Common.{map}
use Rattle.model.specs.Tests.{joined}
use Rattle.num_mask.specs.Bits.{offsets}
use Rattle.plan.specs.Plan.{shown}
use Rattle.file_writer.proofs.Rest.{Rest}
use Rattle.line_maker.specs.Files.{offset_bytes, circuit_bytes}
use Rattle.line_maker.proofs.put_circuit.Given as goal

abbrev pub invariant-loop-offset : goal.invariant-loop-offset
invariant-loop-offset l =
    Rest l.initial.out l.at (circuit_bytes (shown l.b.circuit.now) l.b.offsets) l.out l.next
    (joined (map (offset_bytes (shown l.b.circuit.now)) (offsets l.offset-iterator.left)))
