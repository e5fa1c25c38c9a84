-- `file_request::read` meets its contract. Assumes nothing.
use Rattle.std.proofs.Common.{rules, ◌≡◌, sym, ◌∙◌, arith, length}
use Rattle.model.specs.Sizes.{circuits_most}
use Rattle.model.specs.Reading.{request_step, faultless}
use Rattle.file_records.proofs.Bounds.{walkable}
use Rattle.file_request.proofs.Walking.{bounded, first_inside, read_on}
use Rattle.file_request.proofs.read.Goals as goal

pub places-requires : goal.places-requires
places-requires c =
    let fine : c.verdict.result ≡ faultless = search rules in
    walkable _ _ _ circuits_most (length c.args.s.now) (request_step c.args.s.now) (bounded c.args.s.now)
    (omega (arith, first_inside c.args.s.now (sym c.verdict.ensures ∙ fine), c.word.ensures.is))
    (λ n p h. search rules)
    (record { is = λ n p r k. search rules })

pub returns : goal.returns
returns c =
    let fine : c.verdict.result ≡ faultless = search rules in
    read_on c.args.s.now (sym c.verdict.ensures ∙ fine) _
    (rw (← c.word.ensures.is) (c.places.ensures (request_step c.args.s.now) (record { is = λ n p r k. search rules })))
