-- `file_network::bad_link` meets its contract. Assumes nothing.
use Rattle.std.proofs.Common.{rules, ◌∙◌, arith, tests}
use Rattle.std.proofs.lemmas.Grind.{common_steps}
use Rattle.model.specs.Reading.{same_pair, bad_link}
use Rattle.model.specs.Tests.{◌and◌}
use Rattle.file_records.proofs.Laws as laws
use Rattle.file_records.proofs.Searching.{some_in_range}
use Rattle.file_network.proofs.bad_link.Goals as goal

pub returns-else-of_b : goal.returns-else-of_b
unfolding bad_link same_pair ◌and◌
returns-else-of_b c =
    some_in_range c.args.b (same_pair c.args.s.now c.args.b) _ _ _ c.any.ensures.ran (λ x b q k. search (rules, tests)) ∙ grind (arith, common_steps, laws.tests)
