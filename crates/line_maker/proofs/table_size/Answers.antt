-- `line_maker::table_size` meets its contract. The loop sums over the circuits so far, and the sum stays small. Assumes nothing.
use Rattle.std.proofs.Common.{arith, ap, ap₂, ◌∙◌}
use Rattle.line_maker.specs.Files.{lines_size}
use Rattle.line_maker.proofs.Sizes.{size_before, size_before-none, size_before-more, size_before-all}
use Rattle.line_maker.proofs.table_size.Goals as goal

pub loop-c-init : goal.loop-c-init
loop-c-init c = (omega (arith, size_before-none c.args.b.now.plan.now c.args.b.now.masks.now), omega arith)

pub loop-c-preserved : goal.loop-c-preserved
loop-c-preserved c = (
  omega (arith, c.loop-c.invariant.0, c.lines_size-total.ensures.is ∙ ap₂ lines_size c.of.ensures.circuit c.of.ensures.offsets, size_before-more c.args.b.now.plan.now c.args.b.now.masks.now c.loop-c.c),
  omega arith,
)

pub returns-clause-is : goal.returns-clause-is
returns-clause-is c =
    let p = c.args.b.now.plan.now in
    let m = c.args.b.now.masks.now in
    rw (size_before-all p m) (c.loop-c.invariant.0 ∙ ap (size_before p m) (omega arith))
