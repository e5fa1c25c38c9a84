-- `file_circuit::broken` meets its contract. Assumes nothing.
use Rattle.std.proofs.Common.{rules, tests, nat_eq}
use Rattle.model.specs.Reading.{hop_at, broken_at}
use Rattle.file_records.proofs.Searching.{some_in_range}
use Rattle.file_circuit.proofs.broken.Goals as goal

pub returns-then-any : goal.returns-then-any
unfolding broken_at
returns-then-any c =
    let e = some_in_range c.args.j (λ i. nat_eq (hop_at c.args.circuit.now.file.now c.args.circuit.now.start i) c.hop-buffer.result) _ _ _ c.any.ensures.ran (λ x b q k. search (rules, tests)) in
    simp (← c.hop-buffer.ensures.is, ← e, c.if-any.true)

pub returns-else-any : goal.returns-else-any
unfolding broken_at
returns-else-any c =
    let e = some_in_range c.args.j (λ i. nat_eq (hop_at c.args.circuit.now.file.now c.args.circuit.now.start i) c.hop-buffer.result) _ _ _ c.any.ensures.ran (λ x b q k. search (rules, tests)) in
    simp (← c.hop-buffer.ensures.is, ← e, c.if-any.false, c.gap_at.ensures)
