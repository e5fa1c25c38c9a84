-- `Slots::all_match` meets its contract. Assumes nothing.
use Rattle.line_series.proofs.Matching.{covers_here, covers_not}
use Rattle.line_series.proofs.slots.Slots.all_match.Goals as goal

pub returns-then-self-period-eq0 : goal.returns-then-self-period-eq0
returns-then-self-period-eq0 c = covers_here c.args.self.cycle.slots c.args.self.start c.args.line c.from-period.ensures c.from.ensures c.if-self-period-eq0.true

pub returns-else-self-period-eq0 : goal.returns-else-self-period-eq0
returns-else-self-period-eq0 c = covers_not c.args.self.cycle.slots c.args.self.start c.args.line c.from-period.ensures c.if-self-period-eq0.false
