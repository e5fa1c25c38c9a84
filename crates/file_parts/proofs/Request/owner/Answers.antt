-- `Request::owner` meets its contract. Assumes nothing.
use Rattle.std.proofs.Common.{ap}
use Rattle.model.specs.declared.Link.{Link}
use Rattle.file_parts.proofs.Parts.{owner_is}
use Rattle.file_parts.proofs.Request.owner.Goals as goal

pub returns : goal.returns
returns c = owner_is c.args.self.now.whole _ _ c.requires (ap (λ (l : Link). l.from) (rw c.from.ensures at c.link.ensures))
