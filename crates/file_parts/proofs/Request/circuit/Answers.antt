-- `Request::circuit` meets its contract. Assumes nothing.
use native.Mathlib.Omega.{arith}
use Rattle.file_parts.proofs.Parts.{many, few, circuit_is, starts_at}
use Rattle.file_parts.proofs.Request.circuit.Goals as goal

pub offset_bounds-deref-c : goal.offset_bounds-deref-c
offset_bounds-deref-c c = omega (arith, many c.args.self.now.whole, few c.args.self.now.whole)

pub bounds-deref-c : goal.bounds-deref-c
bounds-deref-c c = rw c.deref.ensures.0 (omega (arith, many c.args.self.now.whole))

pub invariant_of-result : goal.invariant_of-result
invariant_of-result c = record { here = rw c.deref.ensures.0 (starts_at c.args.self.now.whole c.args.c c.requires) }

pub returns-clause-circuit : goal.returns-clause-circuit
returns-clause-circuit c = rw c.deref.ensures.0 (circuit_is c.args.self.now.whole c.args.c c.requires)
