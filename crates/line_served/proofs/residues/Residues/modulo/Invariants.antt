-- `Residues::modulo` meets its contract. The loop's invariant: the remainders of the offsets so far are found. Assumes nothing.
use Rattle.line_served.proofs.Folding.{Folded}
use Rattle.line_served.proofs.residues.Residues.modulo.Given as goal

abbrev pub invariant-loop-a : goal.invariant-loop-a
invariant-loop-a l = Folded l.g.slots l.found l.yielded
