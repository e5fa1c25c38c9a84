-- `Request::len` meets its contract. Assumes nothing.
use mathlib.Core.Path.{◌∙◌}
use Rattle.file_parts.proofs.Parts.{many}
use Rattle.file_parts.proofs.Request.len.Goals as goal

pub returns : goal.returns
returns c = c.len.ensures.value ∙ many c.args.self.now.whole
