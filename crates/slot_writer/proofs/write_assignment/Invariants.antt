-- `slot_writer::write_assignment` meets its contract. Each turn lays in one record, and the end record comes last. Assumes nothing.
use Rattle.std.proofs.Common.{map, drop}
use Rattle.model.specs.Tests.{joined}
use Rattle.file_writer.proofs.Rest.{Rest}
use Rattle.slot_writer.specs.Files.{offsets_record}
use Rattle.slot_writer.proofs.Files.{parts}
use Rattle.slot_writer.proofs.write_assignment.Given as goal

abbrev pub invariant-loop-mask : goal.invariant-loop-mask
invariant-loop-mask l = Rest l.initial.out 0 (parts l.masks) l.out l.at (joined (map offsets_record (drop l.mask-index l.masks)))
