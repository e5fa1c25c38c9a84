-- `file_assignment::read` meets its contract. Assumes nothing.
use Rattle.std.proofs.Common.{rules, arith, length}
use Rattle.model.specs.Sizes.{circuits_most}
use Rattle.model.specs.Reading.{assignment_step, assignment_walk}
use Rattle.file_records.proofs.Bounds.{walkable}
use Rattle.file_parts.specs.Records.{asked}
use Rattle.file_parts.proofs.Parts.{many, few}
use Rattle.file_assignment.proofs.Walking.{bounded}
use Rattle.file_assignment.proofs.read.Goals as goal

pub places-requires : goal.places-requires
places-requires c =
    walkable _ _ 0 circuits_most (length c.args.s.now) (assignment_step (asked c.args.request.now) c.args.s.now)
    (bounded _ _ (omega (arith, many c.args.request.now.whole, few c.args.request.now.whole)))
    (omega arith)
    (λ n p h. search rules)
    (record { is = λ n p r k. search rules })

pub returns : goal.returns
unfolding assignment_walk
returns c = c.places.ensures (assignment_step (asked c.args.request.now) c.args.s.now) (record { is = λ n p r k. search rules })
