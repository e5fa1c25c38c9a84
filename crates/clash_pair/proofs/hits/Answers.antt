-- `clash_pair::hits` meets its contract. Assumes nothing.
use Rattle.std.proofs.Common.{◌∙◌, rules, tests}
use Rattle.std.proofs.lemmas.Iterator.Search.{any_from_yields_List}
use Rattle.num_mask.proofs.Going.{road, list_any-is}
use Rattle.clash_pair.specs.Differences.{one_hits, hits_any}
use Rattle.clash_pair.proofs.hits.Goals as goal

pub returns : goal.returns
unfolding hits_any
returns c =
    any_from_yields_List (λ a. one_hits c.args.bad c.args.g.slots a c.args.m) _ _ _ c.any.ensures.ran
    (road c.args.l c.offsets.ensures) (λ x b q k. search (rules, tests))
    ∙ list_any-is _ _
