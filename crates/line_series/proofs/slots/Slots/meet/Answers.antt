-- `Slots::meet` meets its contract. Assumes nothing.
use Rattle.line_series.proofs.Matching.{agrees_here, agrees_same}
use Rattle.line_series.proofs.slots.Slots.meet.Goals as goal

pub returns-then-period-self : goal.returns-then-period-self
returns-then-period-self c = agrees_same c.args.self.cycle.slots c.args.self.start c.args.line c.from-period.ensures c.from-slot.ensures c.args.self.early_is c.if-period-self.true c.requires.slot

pub returns : goal.returns
returns c = agrees_here c.args.self.cycle.slots c.args.self.start c.args.line c.from-period.ensures c.from-slot.ensures c.common-g.ensures
