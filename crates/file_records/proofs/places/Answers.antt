-- `file_records::places` meets its contract. Assumes nothing.
use Rattle.std.proofs.Common.{rules}
use Rattle.file_records.proofs.Keeping.{pushed, all_pushed}
use Rattle.file_records.proofs.places.Goals as goal

pub walk-requires-clause-keeps : goal.walk-requires-clause-keeps
walk-requires-clause-keeps g c = record {
  room = λ found now start b few folded same.
      let n = pushed _ (λ b p d k. search rules) found _ now folded in
      search rules;
}

pub returns : goal.returns
returns g c said t = all_pushed _ (λ b p d k. search rules) _ c.new.ensures _ _ (c.walk.ensures said t)
