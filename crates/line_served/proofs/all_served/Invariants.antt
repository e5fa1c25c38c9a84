-- `line_served::all_served` meets its contract. The loop's invariant: of the offsets met so far just one line meets each, and none meets the others. Assumes nothing.
use mathlib.Core.Path.{◌≡◌}
use Rattle.plan.specs.Ports.{port_of}
use Rattle.line_served.proofs.Serving.{Serving}
use Rattle.line_served.proofs.all_served.Given as goal

abbrev pub invariant-loop-m : goal.invariant-loop-m
invariant-loop-m l =
    (l.residues.mask ≡ l.offsets) × Serving l.table.bytes.now l.table.lines (port_of l.send.router l.send.inp) l.cycle.slots l.send.after l.send.out l.offsets l.met l.yielded
