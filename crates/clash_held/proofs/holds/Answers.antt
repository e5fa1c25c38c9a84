-- `clash_held::holds` meets its contract. Assumes nothing.
use Rattle.std.proofs.Common.{◌∙◌, refl, eqb, rules, tests}
use Rattle.std.proofs.lemmas.Iterator.{YieldsList-from_slice}
use Rattle.std.proofs.lemmas.Iterator.Search.{any_from_yields_List}
use Rattle.model.specs.Tests.{◌and◌}
use Rattle.num_mask.specs.Bits.{bit}
use Rattle.num_mask.proofs.Going.{list_any-is}
use Rattle.num_cyclic.specs.Ahead.{ahead}
use Rattle.plan.specs.Bookings.{claim_of}
use Rattle.clash_held.specs.Held.{held_by}
use Rattle.clash_held.proofs.Held.{held_is}
use Rattle.clash_held.proofs.holds.Goals as goal

pub returns : goal.returns
unfolding held_by ◌and◌
returns c =
    any_from_yields_List (λ u. eqb u.what c.args.w and bit c.args.b.now.offsets (ahead c.args.b.now.circuit.now.cycle.slots c.args.t u.after)) _ _ _
    c.any.ensures.ran (YieldsList-from_slice c.args.b.now.circuit.now.uses.items cc) (λ x b q k. search (rules, tests))
    ∙ list_any-is _ _
    ∙ held_is (claim_of c.args.b.now) c.args.b.now.offsets c.args.t c.args.w c.args.b.now.circuit.now.cycle.fits c.args.b.now.low refl
