-- `Residues::of` meets its contract. Assumes nothing.
use Rattle.line_served.proofs.Folding.{folds_own}
use Rattle.line_served.proofs.residues.Residues.of.Goals as goal

pub invariant_of-result-2 : goal.invariant_of-result-2
invariant_of-result-2 c = record { folds = folds_own _ }
