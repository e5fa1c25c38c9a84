-- `plan_masks::fill` meets its contract: the masks of the circuits before c stand. Assumes nothing.
use Rattle.plan_masks.specs.Masks.{MasksOf}
use Rattle.plan_masks.proofs.fill.Given as goal

abbrev pub invariant-loop-c : goal.invariant-loop-c
invariant-loop-c l = MasksOf l.assignment l.starts.items l.masks l.c
