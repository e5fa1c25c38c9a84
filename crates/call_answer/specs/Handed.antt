-- How an answer is handed out: document 01's number and four details, as the definition `told` gives them. Assumes nothing: these are definitions.
use Rattle.model.specs.Answers.{told}
use Rattle.model.specs.declared.Answer.{Answer}
use Rattle.call_answer.specs.declared.Details.{Details}

abbrev pub handed : Answer → Details
handed a = record { number = (told a).number; first = (told a).first; second = (told a).second; third = (told a).third; fourth = (told a).fourth }
