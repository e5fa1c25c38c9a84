-- `Table::at` meets its contract. Assumes nothing.
use borrow.Author.Tests.{eqb-true}
use Rattle.line_chains.proofs.Linking.{at_first}
use Rattle.line_chains.proofs.Table.at.Goals as goal

pub invariant_of-result : goal.invariant_of-result
invariant_of-result c = let f = at_first c.args.self.now.chained c.requires c.from.ensures in record { within = f.high; on = λ h. eqb-true _ _ (f.found h) }

pub returns : goal.returns
returns c = (at_first c.args.self.now.chained c.requires c.from.ensures).same
