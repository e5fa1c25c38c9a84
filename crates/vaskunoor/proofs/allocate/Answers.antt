-- `vaskunoor::allocate` meets its contract. Assumes nothing.
use Rattle.vaskunoor.proofs.Allotting.{allot_unread, allot_told}
use Rattle.vaskunoor.proofs.allocate.Goals as goal

pub returns-in-Err : goal.returns-in-Err
returns-in-Err c = allot_unread _ _ _ _ _ c.in-Err.ensures

pub returns : goal.returns
returns c = allot_told _ _ _ _ c.in_default.ensures _ _ c.allot.ensures
