-- `vaskunoor::make_tables` meets its contract. Assumes nothing.
use Rattle.vaskunoor.proofs.Makes.{make_unread, make_told}
use Rattle.vaskunoor.proofs.make_tables.Goals as goal

pub returns-in-Err : goal.returns-in-Err
returns-in-Err c = make_unread _ _ _ _ _ _ c.in-Err.ensures

pub returns : goal.returns
returns c = make_told _ _ _ _ _ c.in_default.ensures _ _ c.make.ensures
