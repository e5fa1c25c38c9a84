-- `call_make::make` meets its contract. Assumes nothing.
use Rattle.call_make.proofs.Making.{make_clash, make_short, make_made}
use Rattle.call_make.proofs.make.Goals as goal

pub returns-in-Err : goal.returns-in-Err
returns-in-Err c = make_clash _ _ c.first_clash.result c.first_clash.ensures _ _ c.in-Err.is

pub returns-then-table-needed : goal.returns-then-table-needed
returns-then-table-needed c = make_short _ _ c.first_clash.result c.first_clash.ensures c.in_default.is _ c.table_size-needed.ensures.is _ c.if-table-needed.true

pub returns : goal.returns
returns c = make_made _ _ c.first_clash.result c.first_clash.ensures c.in_default.is _ c.table_size-needed.ensures.is _ _ c.if-table-needed.false _ c.write_table.ensures
