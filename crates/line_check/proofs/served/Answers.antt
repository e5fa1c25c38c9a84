-- `line_check::served` meets its contract. Assumes nothing.
use Rattle.std.proofs.Common.{rules, tests}
use Rattle.std.proofs.lemmas.Iterator.{YieldsList-from_slice, cases_from_all}
use Rattle.std.proofs.lemmas.List.Elements.{All-from_all_within}
use Rattle.model.specs.declared.Send.{Send}
use Rattle.line_served.specs.Serving.{AllServed}
use Rattle.line_check.proofs.Firsts.{served_all}
use Rattle.line_check.proofs.served.Goals as goal

pub returns : goal.returns
returns c =
    let P = λ (s : Send). AllServed c.args.table.now.bytes.now c.args.table.now.lines c.args.booking.now.circuit.now.cycle.slots s c.args.booking.now.offsets in
    let cases = cases_from_all _ _ c.all.result P (λ s. Unit {0}) c.all.ensures.ran (YieldsList-from_slice c.args.booking.now.circuit.now.sends.items cc) (λ x q k. search (rules, tests)) (λ x q k. tt) in
    λ e n. served_all _ _ _ _ n (All-from_all_within P _ (rw e at cases))
