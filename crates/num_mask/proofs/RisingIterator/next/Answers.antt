-- `next` gives the lowest offset and keeps the others. Assumes nothing.
use Rattle.std.proofs.Common.{◌≡◌, ◌<◌, ◌∷◌, length, arith}
use Rattle.num_mask.specs.Bits.{offsets}
use Rattle.num_mask.proofs.Laws.{offsets-zero}
use Rattle.num_mask.proofs.RisingIterator.next.Goals as goal

pub returns-then-self-eq0-clause-steps : goal.returns-then-self-eq0-clause-steps
returns-then-self-eq0-clause-steps c = rw (c.if-self-eq0.true) (offsets-zero, offsets-zero)

pub returns-clause-steps : goal.returns-clause-steps
returns-clause-steps c = rw c.without-self.ensures c.lowest-first.ensures.parts

pub returns-clause-goes : goal.returns-clause-goes
returns-clause-goes c =
    let steps : offsets c.args.self.now.left ≡ c.lowest-first.result ∷ offsets c.without-self.result = rw c.without-self.ensures c.lowest-first.ensures.parts in
    let fewer : length (offsets c.without-self.result) < length (offsets c.args.self.now.left) = rw steps (omega arith) in
    record { on = λ _. (tt, tt, fewer); keeps = tt; rests = λ _. tt }
