-- `file_assignment::verdict` meets its contract. Assumes nothing.
use Rattle.std.proofs.Common.{rules, ◌+◌, ◌≤◌, ◌<◌, arith, length}
use Rattle.std.proofs.iter.Serving.{serving}
use Rattle.model.specs.Sizes.{head_size}
use Rattle.file_parts.specs.Records.{asked, recorded}
use Rattle.model.specs.Reading.{bad_offset}
use Rattle.file_records.proofs.Laws.{decided}
use Rattle.file_records.proofs.Searching.{some_in_range}
use Rattle.file_assignment.proofs.Laws.{by_parts, room}
use Rattle.file_assignment.proofs.verdict.Goals as goal

pub returns-in_err-offsets_head : goal.returns-in_err-offsets_head
returns-in_err-offsets_head c =
    let low : c.args.k < length (asked c.args.request.now).circuits = omega arith in
    rw (by_parts (asked c.args.request.now) c.args.offsets.now.file.now c.args.k c.args.offsets.now.start low (recorded c.circuit-circuit.result) c.circuit-circuit.ensures.circuit, ← c.offsets_head.ensures) (search rules)

pub any-requires-clause-callable : goal.any-requires-clause-callable
any-requires-clause-callable c =
    let fits : c.args.offsets.now.start + head_size + c.length.result ≤ length c.args.offsets.now.file.now =
    rw c.length.ensures.is (room _ _ _ _ _ c.offsets_head.ensures c.in_ok-offsets_head.was)
    in
    grind serving

pub returns-then-any : goal.returns-then-any
returns-then-any c =
    let low : c.args.k < length (asked c.args.request.now).circuits = omega arith in
    let e = some_in_range c.length.result (bad_offset c.args.offsets.now.file.now c.args.offsets.now.start c.cycle-cycle.result.slots) _ _ _ c.any.ensures.ran (λ x b q k. search rules) in
    rw (by_parts (asked c.args.request.now) c.args.offsets.now.file.now c.args.k c.args.offsets.now.start low (recorded c.circuit-circuit.result) c.circuit-circuit.ensures.circuit)
    (decided _ _ _ _ _ c.offsets_head.ensures c.in_ok-offsets_head.was (simp (← c.cycle-cycle.ensures, ← c.length.ensures.is, ← e, c.if-any.true)))

pub returns : goal.returns
returns c =
    let low : c.args.k < length (asked c.args.request.now).circuits = omega arith in
    let e = some_in_range c.length.result (bad_offset c.args.offsets.now.file.now c.args.offsets.now.start c.cycle-cycle.result.slots) _ _ _ c.any.ensures.ran (λ x b q k. search rules) in
    rw (by_parts (asked c.args.request.now) c.args.offsets.now.file.now c.args.k c.args.offsets.now.start low (recorded c.circuit-circuit.result) c.circuit-circuit.ensures.circuit)
    (decided _ _ _ _ _ c.offsets_head.ensures c.in_ok-offsets_head.was (simp (← c.cycle-cycle.ensures, ← c.length.ensures.is, ← e, c.if-any.false)))
