-- `file_network::verdict` meets its contract. Assumes nothing.
use Rattle.std.proofs.Common.{rules, ◌≤◌, length}
use Rattle.std.proofs.iter.Serving.{serving}
use Rattle.model.specs.Reading.{from_place, bad_link, network_verdict}
use Rattle.file_records.proofs.Laws.{decided}
use Rattle.file_records.proofs.Searching.{some_in_range}
use Rattle.file_network.proofs.Room.{room}
use Rattle.file_network.proofs.verdict.Goals as goal

pub returns-in_err-network_head : goal.returns-in_err-network_head
unfolding network_verdict
returns-in_err-network_head c = search rules

pub any-requires-clause-callable : goal.any-requires-clause-callable
any-requires-clause-callable c =
    let fits : from_place c.word.result ≤ length c.args.s.now = rw c.word.ensures.is (room _ _ _ c.network_head.ensures c.in_ok-network_head.was) in
    grind serving

pub returns-then-any : goal.returns-then-any
unfolding network_verdict
returns-then-any c =
    let e = some_in_range c.word.result (bad_link c.args.s.now c.word-routers.result) _ _ _ c.any.ensures.ran (λ x b q k. search rules) in
    decided _ _ _ _ _ c.network_head.ensures c.in_ok-network_head.was (simp (← c.word-routers.ensures.is, ← c.word.ensures.is, ← e, c.if-any.true))

pub returns : goal.returns
unfolding network_verdict
returns c =
    let e = some_in_range c.word.result (bad_link c.args.s.now c.word-routers.result) _ _ _ c.any.ensures.ran (λ x b q k. search rules) in
    decided _ _ _ _ _ c.network_head.ensures c.in_ok-network_head.was (simp (← c.word-routers.ensures.is, ← c.word.ensures.is, ← e, c.if-any.false))
