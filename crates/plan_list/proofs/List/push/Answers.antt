-- `List::push` meets its contract: the places behind the element stay blank. Assumes nothing.
use Rattle.std.proofs.Common.{◌+◌, ◌≤◌, arith, length-set, ◌∙◌}
use Rattle.plan_list.specs.Places.{used}
use Rattle.plan_list.proofs.Places.{after_push}
use Rattle.plan_list.proofs.List.push.Goals as goal

pub invariant_of-self : goal.invariant_of-self
invariant_of-self g c =
    let h = c.self.invariant in
    let places = c.self.inside.places in
    let room : c.self.inside.len + 1 ≤ g.row.CAP = omega (arith, used places h.0 h.1, rw (← c.self.view_is) at c.requires) in
    (room, length-set places _ _ ∙ h.1, after_push places _ _ (omega arith) h.2)
