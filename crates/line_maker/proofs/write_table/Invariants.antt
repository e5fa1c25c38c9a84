-- `line_maker::write_table` meets its contract. Each turn lays in the lines of one circuit, and the end record comes last. Assumes nothing.
use Rattle.plan.specs.Plan.{circuits_in}
use Rattle.file_writer.proofs.Lists.{left_of}
use Rattle.file_writer.proofs.Rest.{Rest}
use Rattle.line_maker.proofs.Sizes.{part_of, parts}
use Rattle.line_maker.proofs.write_table.Given as goal

abbrev pub invariant-loop-c : goal.invariant-loop-c
invariant-loop-c l =
    let p = l.b.plan.now in
    let m = l.b.masks.now in
    Rest l.initial.out 0 (parts p m) l.out l.at (left_of (circuits_in p) (part_of p m) l.c)
