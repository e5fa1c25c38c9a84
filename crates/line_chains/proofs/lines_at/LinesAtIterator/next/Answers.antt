-- `next` gives the line and comes to the next of its chain. Assumes nothing.
use Rattle.std.proofs.Common.{ℕ, ◌<◌, length, arith}
use borrow.Author.Tests.{eqb-true}
use Rattle.line_chains.specs.Chains.{lines_from}
use Rattle.line_chains.proofs.Numbers.{numbers-end}
use Rattle.line_chains.proofs.Linking.{at_next, next_more}
use Rattle.line_chains.proofs.lines_at.LinesAtIterator.next.Goals as goal

pub returns-then-here-self-clause-steps : goal.returns-then-here-self-clause-steps
returns-then-here-self-clause-steps c = rw c.if-here-self.true (numbers-end _ _, numbers-end _ _)

here_low : (c : goal.After-from-self) → c.args.self.now.line < c.args.self.now.table.now.lines
here_low c = omega (arith, c.args.self.now.within, c.if-here-self.false)

pub invariant_of-self : goal.invariant_of-self
invariant_of-self c =
    let s = c.args.self.now in
    let f = at_next s.table.now.chained (here_low c) (s.on (here_low c)) c.from-self.ensures in
    record { within = f.high; on = λ h. eqb-true _ _ (f.found h) }

pub returns-clause-steps : goal.returns-clause-steps
returns-clause-steps c =
    let s = c.args.self.now in
    let low : s.line < s.table.now.lines = omega (arith, s.within, c.if-here-self.false) in
    next_more s.table.now.chained low (s.on low) c.from-self.ensures

pub returns-clause-goes : goal.returns-clause-goes
returns-clause-goes c =
    let s = c.args.self.now in
    let low : s.line < s.table.now.lines = omega (arith, s.within, c.if-here-self.false) in
    let left = λ (i : ℕ). lines_from s.table.now.bytes.now s.table.now.lines s.port i in
    let fewer : length (left c.from-self.result) < length (left s.line) = rw (next_more s.table.now.chained low (s.on low) c.from-self.ensures) (omega arith) in
    record { on = λ _. (tt, tt, fewer); keeps = tt; rests = λ _. tt }
