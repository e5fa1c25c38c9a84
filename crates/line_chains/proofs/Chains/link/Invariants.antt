-- `Chains::link` meets its contract. The loop's invariant: the lines from m on are in their chains. Assumes nothing.
use Prim.Native.Nat.{◌≤◌}
use mathlib.Core.Path.{◌≡◌}
use lib.ListN.{length}
use Rattle.model.specs.Sizes.{lines_most, resources_most}
use Rattle.line_chains.specs.Chains.{Chained}
use Rattle.line_chains.proofs.Chains.link.Given as goal

abbrev pub invariant-loop-m : goal.invariant-loop-m
invariant-loop-m l = record {
  within : l.m ≤ l.lines;
  ports : length l.self.first ≡ resources_most;
  lines : length l.self.next ≡ lines_most;
  chained : Chained l.bytes l.lines l.m l.self.first l.self.next;
}
