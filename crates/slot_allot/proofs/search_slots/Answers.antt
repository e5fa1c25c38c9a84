-- `slot_allot::search_slots` meets its contract. Assumes nothing.
use Rattle.slot_allot.proofs.Bridge.{bridge}
use Rattle.slot_allot.proofs.search_slots.Goals as goal

pub returns : goal.returns
returns c = λ q s. rw (bridge s (c.fill.ensures q s)) at c.allot.ensures
