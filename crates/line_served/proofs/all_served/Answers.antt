-- `line_served::all_served` meets its contract. The loop's invariant: of the offsets met so far just one line meets each, and none meets the others. Assumes nothing.
use Rattle.std.proofs.Common.{◌≡◌, true, sym, ap, ◌∙◌}
use Rattle.std.proofs.lemmas.List.{map-id}
use Rattle.std.proofs.lemmas.Iterator.Consumers.{YieldsList-at, YieldsList-turn, YieldsList-end}
use borrow.Author.Tests.{eqb-true}
use Rattle.model.specs.declared.Line.{Line}
use Rattle.plan.specs.Ports.{port_of}
use Rattle.line_chains.specs.Chains.{has, lines_at}
use Rattle.line_chains.proofs.Going.{road, at_turn}
use Rattle.line_served.proofs.Serving.{serving_none, serving_other, serving_past, serving_on, serving_all}
use Rattle.line_served.proofs.all_served.Goals as goal

pub loop-m-init : goal.loop-m-init
loop-m-init c = (c.of-residues.ensures, serving_none _ _ _ _ _ _ _)

pub line-line-requires : goal.line-line-requires
line-line-requires c =
    let all = YieldsList-at c.into_iter-m-iterator.ensures.into_iter_gives (road _ c.at-m-items.ensures) in
    (at_turn _ _ c.port_of.result _ _ (YieldsList-turn all c.loop-m.yielded _ c.loop-m.yielded_by c.next.result c.next.new.self _ c.in-Some.is c.next.ensures.steps)).0

pub loop-m-preserved-then-period-cycle : goal.loop-m-preserved-then-period-cycle
loop-m-preserved-then-period-cycle c =
    let period = c.from-period.ensures ∙ ap (λ (l : Line). l.period) c.line-line.ensures.is in
    let slot = c.from-slot.ensures ∙ ap (λ (l : Line). l.slot) c.line-line.ensures.is in
    let cycle = c.args.cycle.fits in
    let mask : c.modulo-residues.result.mask ≡ c.args.offsets = c.modulo-residues.ensures.mask ∙ c.loop-m.invariant.0 in
    let folds = rw (mask, c.modulo-residues.ensures.cycle) at c.modulo-residues.result.folds in
    let at = rw (c.modulo-residues.ensures.cycle, c.from-after.ensures) at c.difference-r.ensures.is in
    (mask, serving_other _ _ _ _ _ _ _ _ _ c.loop-m.invariant.1 c.in-Some.m cycle period slot c.common.ensures folds at c.has.ensures c.if-has.false)

pub loop-m-preserved-then-not-has : goal.loop-m-preserved-then-not-has
loop-m-preserved-then-not-has c =
    let period = c.from-period.ensures ∙ ap (λ (l : Line). l.period) c.line-line.ensures.is in
    let slot = c.from-slot.ensures ∙ ap (λ (l : Line). l.slot) c.line-line.ensures.is in
    let cycle = c.args.cycle.fits in
    let early = rw c.line-line.ensures.is at c.line-line.ensures.slot in
    let at = rw c.from-after.ensures at c.difference-a.ensures.is in
    (c.loop-m.invariant.0, serving_past _ _ _ _ _ _ _ _ _ c.loop-m.invariant.1 c.in-Some.m cycle period slot early c.if-period-cycle.false at c.has-in-loop-m.ensures c.if-not-has.true)

pub loop-m-preserved : goal.loop-m-preserved
loop-m-preserved c =
    let period = c.from-period.ensures ∙ ap (λ (l : Line). l.period) c.line-line.ensures.is in
    let slot = c.from-slot.ensures ∙ ap (λ (l : Line). l.slot) c.line-line.ensures.is in
    let cycle = c.args.cycle.fits in
    let early = rw c.line-line.ensures.is at c.line-line.ensures.slot in
    let at = rw c.from-after.ensures at c.difference-a.ensures.is in
    let leads = sym (ap (λ (l : Line). l.out) c.line-line.ensures.is) ∙ c.if-line-send.false in
    let all = YieldsList-at c.into_iter-m-iterator.ensures.into_iter_gives (road _ c.at-m-items.ensures) in
    let here = at_turn _ _ c.port_of.result _ _ (YieldsList-turn all c.loop-m.yielded _ c.loop-m.yielded_by c.next.result c.next.new.self _ c.in-Some.is c.next.ensures.steps) in
    let on : has c.args.table.now.bytes.now (port_of c.args.send.router c.args.send.inp) c.in-Some.m ≡ true = rw c.port_of.ensures at here.1 in
    (c.loop-m.invariant.0, serving_on _ _ _ _ _ _ _ _ _ c.loop-m.invariant.1 c.in-Some.m cycle period slot early c.if-period-cycle.false at here.0 on (sym c.has-in-loop-m.ensures ∙ c.if-not-has.false) (sym c.has-in-loop-m-2.ensures ∙ c.if-has-2.false) leads c.with-met.ensures.marked)

pub returns : goal.returns
returns c =
    let all = YieldsList-at c.into_iter-m-iterator.ensures.into_iter_gives (road _ c.at-m-items.ensures) in
    let seen = YieldsList-end all c.loop-m.yielded _ c.loop-m.yielded_by c.next.result c.next.new.self c.in-None.is c.next.ensures.steps in
    let listed : c.loop-m.yielded ≡ lines_at c.args.table.now.bytes.now c.args.table.now.lines (port_of c.args.send.router c.args.send.inp) = sym (map-id _) ∙ seen.0 ∙ ap (lines_at c.args.table.now.bytes.now c.args.table.now.lines) c.port_of.ensures in
    λ e. serving_all _ _ _ _ _ c.loop-m.met (rw listed at c.loop-m.invariant.1) (eqb-true _ _ e)
