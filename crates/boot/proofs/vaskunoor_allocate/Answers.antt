-- `boot::vaskunoor_allocate` meets its contract. Assumes nothing.
use Rattle.boot.proofs.Telling.{answered, refused}
use Rattle.boot.proofs.vaskunoor_allocate.Goals as goal

pub returns-then-details-ne-DETAILS_SIZE : goal.returns-then-details-ne-DETAILS_SIZE
returns-then-details-ne-DETAILS_SIZE c = refused _ _ _ c.if-details-ne-DETAILS_SIZE.true

pub returns : goal.returns
returns c = search answered
