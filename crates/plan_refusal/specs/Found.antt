-- What a test found, as the model has it. Assumes nothing: these are definitions.
use Rattle.std.specs.Prelude.{Result, Ok, Err}
use Rattle.std.proofs.Math.Option.{Option, none, some}
use Rattle.model.specs.declared.Answer.{Answer}

abbrev pub Tested : Type 0
Tested = Result (Unit {0}) Answer

abbrev pub found : Tested → Option Answer
found (Ok u) = none
found (Err a) = some a
