-- `call_tell::tell` meets its contract. Each turn lays in one detail. Assumes nothing.
use Rattle.std.proofs.Common.{map, drop}
use Rattle.model.specs.Tests.{joined}
use Rattle.file_writer.proofs.Rest.{Rest}
use Rattle.call_tell.specs.Telling.{long}
use Rattle.call_tell.proofs.tell.Given as goal

abbrev pub invariant-loop-number : goal.invariant-loop-number
invariant-loop-number l = Rest l.initial.details 0 (joined (map long l.number-items)) l.details l.at (joined (map long (drop l.number-index l.number-items)))
