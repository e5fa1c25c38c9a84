-- `List::clear` meets its contract. The loop's invariant: the places passed are blank. Assumes nothing.
use Rattle.plan_list.proofs.Places.{Clearing}
use Rattle.plan_list.proofs.List.clear.Given as goal

abbrev pub invariant-loop-place : goal.invariant-loop-place
invariant-loop-place g l = Clearing g.T.Blank.blank g.row.CAP l.place-end l.place l.self-inside.places
