-- `file_table::read` meets its contract. Assumes nothing.
use Rattle.std.proofs.Common.{rules, arith, length}
use Rattle.model.specs.Sizes.{lines_most}
use Rattle.model.specs.Reading.{request, table_step, table_walk}
use Rattle.file_records.proofs.Bounds.{walkable}
use Rattle.file_table.proofs.Walking.{bounded}
use Rattle.file_table.proofs.read.Goals as goal

pub count-requires : goal.count-requires
count-requires c =
    walkable _ _ 0 lines_most (length c.args.s.now) (table_step (request c.args.req.now).network c.args.s.now) (bounded _ _)
    (omega arith)
    (λ n p h. search rules)
    (record { is = λ n p r k. search rules })

pub returns : goal.returns
unfolding table_walk
returns c = c.count.ensures (table_step (request c.args.req.now).network c.args.s.now) (record { is = λ n p r k. search rules })
