-- Tests in a row, for those who prove a row of them. Assumes nothing.
use mathlib.Core.Path.{◌≡◌, ap, sym, ◌∙◌}
use borrow.Author.Tests.{lt-ltb, le-ltb, le-leb, lt-leb, eq-eqb, ne_eqb}
use Rattle.std.specs.declared.result.Result.TheVariants.{Ok}
use Rattle.model.specs.Reading.{Verdict, and_then}

-- a row of tests on numbers, each true or false by a fact that is known
pub ruleset tests = (lt-ltb, le-ltb, le-leb, lt-leb, eq-eqb, ne_eqb)

-- the tests behind those that found no fault decide
pub decided : (first head r rest : Verdict) (u : Unit {0}) → first ≡ head → first ≡ Ok u → r ≡ rest → r ≡ and_then head rest
decided first head r rest u h o e = e ∙ ap (λ (v : Verdict). and_then v rest) (sym o ∙ h)
