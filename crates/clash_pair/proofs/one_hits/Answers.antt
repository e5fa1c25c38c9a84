-- `clash_pair::one_hits` meets its contract. Assumes nothing.
use Rattle.std.proofs.Common.{◌∙◌, rules, tests}
use Rattle.std.proofs.lemmas.Iterator.Search.{any_from_yields_List}
use Rattle.num_mask.specs.Bits.{bit}
use Rattle.num_mask.proofs.Going.{road, list_any-is}
use Rattle.num_cyclic.specs.Ahead.{ahead}
use Rattle.clash_pair.specs.Differences.{one_hits}
use Rattle.clash_pair.proofs.one_hits.Goals as goal

pub returns : goal.returns
unfolding one_hits
returns c =
    any_from_yields_List (λ b. bit c.args.bad (ahead c.args.g.slots c.args.a b)) _ _ _ c.any.ensures.ran
    (road c.args.m c.offsets.ensures) (λ x b q k. search (rules, tests))
    ∙ list_any-is _ _
