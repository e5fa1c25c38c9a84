-- `call_allot::allot` meets its contract. Assumes nothing.
use Rattle.std.proofs.Common.{ap, ◌∙◌, arith}
use Rattle.std.specs.declared.result.Result.TheVariants.{Ok}
use Rattle.call_allot.proofs.Allotting.{needed_small, too_short_lem, no_room_lem, not_finished, room_here, given_here}
use Rattle.call_allot.proofs.allot.Goals as goal

pub overflow_cast-bytes : goal.overflow_cast-bytes
overflow_cast-bytes c = omega (arith, needed_small _ _ c.assignment_size-needed.ensures c.requires)

pub returns-then-assignment-needed : goal.returns-then-assignment-needed
returns-then-assignment-needed c = too_short_lem _ _ c.assignment_size-needed.ensures _ _ c.if-assignment-needed.true

pub write_assignment-requires : goal.write_assignment-requires
write_assignment-requires c =
    rw c.len.ensures.value
    (room_here _ _ c.assignment_size-needed.ensures c.args.assignment.now c.if-assignment-needed.false _ _ c.search_slots.result c.search_slots.ensures
    _ (c.in-Ok-Found.is ∙ ap Ok c.in-Ok-Found.field-0-is) c.requires)

pub returns-in-Ok-Found : goal.returns-in-Ok-Found
returns-in-Ok-Found c =
    given_here _ _ c.assignment_size-needed.ensures _ c.if-assignment-needed.false _ _ c.search_slots.result c.search_slots.ensures
    _ (c.in-Ok-Found.is ∙ ap Ok c.in-Ok-Found.field-0-is) (rw c.len.ensures.value at c.write_assignment.ensures)

pub returns-in-Ok-NoRoom : goal.returns-in-Ok-NoRoom
returns-in-Ok-NoRoom c =
    no_room_lem _ _ c.assignment_size-needed.ensures _ c.if-assignment-needed.false _ _ c.search_slots.result c.search_slots.ensures
    _ (c.in-Ok-NoRoom.is ∙ ap Ok c.in-Ok-NoRoom.field-0-is)

pub returns-in-Err : goal.returns-in-Err
returns-in-Err c =
    not_finished _ _ c.assignment_size-needed.ensures _ c.if-assignment-needed.false _ _ c.search_slots.result c.search_slots.ensures c.in-Err.is
