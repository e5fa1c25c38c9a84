-- `Residues::modulo` meets its contract. The loop's invariant: the remainders of the offsets so far are found. Assumes nothing.
use Rattle.std.proofs.Common.{◌≡◌, sym, ◌∙◌}
use Rattle.std.proofs.lemmas.List.{map-id}
use Rattle.std.proofs.lemmas.Iterator.Consumers.{YieldsList-at, YieldsList-end}
use Rattle.num_mask.specs.Bits.{offsets}
use Rattle.num_mask.proofs.Going.{road}
use Rattle.line_served.proofs.Folding.{folded_all}
use Rattle.line_served.proofs.residues.Residues.modulo.Goals as goal

pub invariant_of-result : goal.invariant_of-result
invariant_of-result c =
    let all = YieldsList-at c.into_iter-a-iterator.ensures.into_iter_gives (road _ c.offsets-a-items.ensures) in
    let seen = YieldsList-end all c.loop-a.yielded _ c.loop-a.yielded_by c.next.result c.next.new.self c.in-None.is c.next.ensures.steps in
    let listed : c.loop-a.yielded ≡ offsets c.args.self.mask = sym (map-id _) ∙ seen.0 in
    record { folds = folded_all _ _ _ (rw listed at c.loop-a.invariant) }
