-- `line_check::check_circuit` meets its contract. The loop's invariant: the offsets so far have no fault. Assumes nothing.
use Rattle.std.proofs.Common.{◌≡◌, take, length, sym, ◌∙◌}
use Rattle.std.proofs.lemmas.List.{map-id}
use Rattle.std.proofs.lemmas.Iterator.Consumers.{YieldsList-at, YieldsList-so_far, YieldsList-turn, YieldsList-end}
use Rattle.num_mask.specs.Bits.{offsets}
use Rattle.num_mask.proofs.Going.{road}
use Rattle.plan_refusal.proofs.Firsts.{found-some}
use Rattle.line_check.specs.Checks.{circuit_fault}
use Rattle.plan_refusal.proofs.Firsts.{handed_on}
use Rattle.line_check.proofs.Firsts.{first_of-none, first_of-found}
use Rattle.line_check.proofs.check_circuit.Goals as goal

pub returns-in_err-check_offset : goal.returns-in_err-check_offset
unfolding circuit_fault
returns-in_err-check_offset c =
    let all = YieldsList-at c.into_iter-offset-iterator.ensures.into_iter_gives (road _ c.offsets-offset-items.ensures) in
    let turn = YieldsList-turn all c.loop-offset.yielded _ c.loop-offset.yielded_by c.next.result c.next.new.self _ c.in-Some.is c.next.ensures.steps in
    let past : c.loop-offset.yielded ≡ take (length c.loop-offset.yielded) (offsets c.args.booking.now.offsets) = sym (map-id _) ∙ YieldsList-so_far all c.loop-offset.yielded _ c.loop-offset.yielded_by in
    handed_on _ _ c.from_residual.ensures.1
    ∙ first_of-found _ _ c.loop-offset.yielded c.in-Some.offset _ past turn.0 turn.1 c.loop-offset.invariant (sym c.check_offset.ensures ∙ found-some _ _ c.in_err-check_offset.was)

pub returns : goal.returns
unfolding circuit_fault
returns c =
    let all = YieldsList-at c.into_iter-offset-iterator.ensures.into_iter_gives (road _ c.offsets-offset-items.ensures) in
    let seen = YieldsList-end all c.loop-offset.yielded _ c.loop-offset.yielded_by c.next.result c.next.new.self c.in-None.is c.next.ensures.steps in
    let listed : c.loop-offset.yielded ≡ offsets c.args.booking.now.offsets = sym (map-id _) ∙ seen.0 in
    first_of-none _ _ (rw listed at c.loop-offset.invariant)
