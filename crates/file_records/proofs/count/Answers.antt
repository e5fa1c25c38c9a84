-- `file_records::count` meets its contract. Assumes nothing.
use Rattle.std.proofs.Common.{rules}
use Rattle.file_records.proofs.Keeping.{counted, all_counted}
use Rattle.file_records.proofs.count.Goals as goal

pub walk-requires-clause-keeps : goal.walk-requires-clause-keeps
walk-requires-clause-keeps g c = record {
  room = λ found now start b few folded same.
      let n = counted _ (λ b p d k. search rules) found 0 now folded in
      search rules;
}

pub returns : goal.returns
returns g c said t = all_counted _ (λ b p d k. search rules) _ _ (c.walk.ensures said t)
