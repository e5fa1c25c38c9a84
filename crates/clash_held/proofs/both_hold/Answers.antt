-- `clash_held::both_hold` meets its contract. Assumes nothing.
use Rattle.model.specs.Tests.{◌and◌}
use Rattle.clash_held.proofs.both_hold.Goals as goal

pub returns-then-holds : goal.returns-then-holds
unfolding ◌and◌
returns-then-holds c = rw (← c.holds.ensures, c.if-holds.true) c.holds-then-holds.ensures

pub returns-else-holds : goal.returns-else-holds
unfolding ◌and◌
returns-else-holds c = rw (← c.holds.ensures, c.if-holds.false)
