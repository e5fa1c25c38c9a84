-- `Series::meeting` meets its contract. The loop's invariant: what was seen of the lines so far. Assumes nothing.
use Rattle.std.proofs.Common.{sym, ap, ◌∙◌}
use Rattle.std.proofs.lemmas.Iterator.Consumers.{YieldsList-at, YieldsList-turn}
use Rattle.line_chains.proofs.Going.{road, at_turn}
use Rattle.line_series.specs.Matching.{agrees, covers}
use Rattle.line_series.proofs.Coming.{met-passed, met-more}
use Rattle.line_series.proofs.Series.meeting.Goals as goal

pub line-line-requires : goal.line-line-requires
line-line-requires c =
    let all = YieldsList-at c.into_iter-m-iterator.ensures.into_iter_gives (road _ c.at-m-items.ensures) in
    (at_turn _ _ c.port_of.result _ _ (YieldsList-turn all c.loop-m.yielded _ c.loop-m.yielded_by c.next.result c.next.new.self _ c.in-Some.is c.next.ensures.steps)).0

pub loop-m-preserved-then-not-meet : goal.loop-m-preserved-then-not-meet
loop-m-preserved-then-not-meet c =
    c.loop-m.invariant
    ∙ met-passed _ _ _ _ _ (ap (agrees c.new-slots.result.cycle.slots c.new-slots.result.start) (sym c.line-line.ensures.is) ∙ sym c.meet.ensures ∙ c.if-not-meet.true)

pub loop-m-preserved : goal.loop-m-preserved
loop-m-preserved c =
    let here = ap (agrees c.new-slots.result.cycle.slots c.new-slots.result.start) (sym c.line-line.ensures.is) ∙ sym c.meet.ensures ∙ c.if-not-meet.false in
    let whole = c.all_match.ensures ∙ ap (covers c.new-slots.result.cycle.slots c.new-slots.result.start) c.line-line.ensures.is in
    (cc) ∙ met-more _ _ _ _ _ c.loop-m.met c.all_match.result c.loop-m.invariant here whole
