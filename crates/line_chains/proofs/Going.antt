-- Going through the lines at an inport in a `for`. Assumes nothing.
use Rattle.std.proofs.Common.{◌≡◌, ℕ, ◌<◌, true, List, length, get_or, sym, subst}
use Rattle.std.specs.Iterator.{YieldsFirst}
use Rattle.std.proofs.lemmas.Iterator.{YieldsList}
use Rattle.std.proofs.lemmas.Iterator.Consumers.{YieldsList-from_first}
use Rattle.line_chains.specs.Chains.{has, lines_at}
use Rattle.line_chains.specs.Left.{left}
use Rattle.line_chains.specs.declared.lines_at.LinesAt.{LinesAt}
use Rattle.line_chains.proofs.Numbers.{each_passes}

-- the chain proof of `table.at(port)`, for the library's laws of iterators
pub road : {s : LinesAt} (xs : List ℕ) → left s ≡ xs → YieldsList (YieldsFirst left) (λ x. x) s xs
road xs e = YieldsList-from_first (λ x. x) left xs e

-- each that comes is a line with the inport
pub at_turn : (t : List ℕ) (lines port k m : ℕ) → (k < length (lines_at t lines port)) × (m ≡ get_or (lines_at t lines port) k m) → (m < lines) × (has t port m ≡ true)
at_turn t lines port k m h = subst (λ (x : ℕ). (x < lines) × (has t port x ≡ true)) (sym h.1) (each_passes (has t port) lines k m h.0)
