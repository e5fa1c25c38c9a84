-- `file_circuit::circuit_body` meets its contract. Assumes nothing.
use Rattle.std.proofs.Common.{rules, tests}
use Rattle.model.specs.Reading.{bad_hop, broken_at, circuit_body}
use Rattle.model.specs.Tests.{neg}
use Rattle.file_records.proofs.Searching.{some_in_range}
use Rattle.file_circuit.proofs.circuit_body.Goals as goal

pub returns-then-any : goal.returns-then-any
unfolding circuit_body neg
returns-then-any c =
    let e = some_in_range c.byte-hops.result (bad_hop c.args.circuit.now.file.now c.args.circuit.now.start c.word-buffers.result) _ _ _ c.any.ensures.ran (λ x b q k. search (rules, tests)) in
    simp (← c.byte.ensures.is, ← c.byte-hops.ensures.is, ← c.word-buffers.ensures.is, c.if-byte-ne0.false, ← e, c.if-any.true)

pub returns-then-any-2 : goal.returns-then-any-2
unfolding circuit_body neg
returns-then-any-2 c =
    let e = some_in_range c.byte-hops.result (bad_hop c.args.circuit.now.file.now c.args.circuit.now.start c.word-buffers.result) _ _ _ c.any.ensures.ran (λ x b q k. search (rules, tests)) in
    let f = some_in_range c.byte-hops.result (broken_at c.args.circuit.now.file.now c.args.circuit.now.start) _ _ _ c.any-2.ensures.ran (λ x b q k. search (rules, tests)) in
    simp (← c.byte.ensures.is, ← c.byte-hops.ensures.is, ← c.word-buffers.ensures.is, c.if-byte-ne0.false, ← e, c.if-any.false, ← f, c.if-any-2.true)

pub returns : goal.returns
unfolding circuit_body neg
returns c =
    let e = some_in_range c.byte-hops.result (bad_hop c.args.circuit.now.file.now c.args.circuit.now.start c.word-buffers.result) _ _ _ c.any.ensures.ran (λ x b q k. search (rules, tests)) in
    let f = some_in_range c.byte-hops.result (broken_at c.args.circuit.now.file.now c.args.circuit.now.start) _ _ _ c.any-2.ensures.ran (λ x b q k. search (rules, tests)) in
    simp (← c.byte.ensures.is, ← c.byte-hops.ensures.is, ← c.word-buffers.ensures.is, c.if-byte-ne0.false, ← e, c.if-any.false, ← f, c.if-any-2.false)
