-- `Chains::link` meets its contract. The loop's invariant: the lines from m on are in their chains. Assumes nothing.
use Rattle.std.proofs.Common.{◌≡◌, ℕ, List, ◌<◌, ◌-◌, ◌+◌, arith, ap, ◌∙◌, rules}
use Rattle.std.proofs.lemmas.List.{get_or-replicate}
use Rattle.model.specs.declared.Line.{Line}
use Rattle.plan.specs.Ports.{port_of}
use Rattle.line_chains.specs.Chains.{line_in, port_at, Chained}
use Rattle.line_chains.proofs.Linking.{chain_none, port_inside, chain_more}
use Rattle.line_chains.proofs.Chains.link.Goals as goal

pub loop-m-init : goal.loop-m-init
loop-m-init c = record { within = omega arith; ports = search rules; lines = search rules; chained = chain_none _ _ _ _ (λ k h. get_or-replicate _ k _ 0 h) }

port_is : (t : List ℕ) (m : ℕ) (l : Line) (p : ℕ) → l ≡ line_in t m → p ≡ port_of l.router l.inp → p ≡ port_at t m
unfolding port_at
port_is t m l p line is = is ∙ ap (λ (l : Line). port_of l.router l.inp) line

behind : (t : List ℕ) (lines m : ℕ) (heads nexts : List ℕ) → 0 < m → Chained t lines m heads nexts → Chained t lines (m - 1 + 1) heads nexts
behind t lines m heads nexts h k = let e : m - 1 + 1 ≡ m = omega arith in rw e k

pub bounds-self-port : goal.bounds-self-port
bounds-self-port c = port_inside _ _ (c.loop-m.m - 1) _ _ _ c.requires (omega arith) (port_is _ _ _ _ c.line_at-line.ensures c.port_of-port.ensures) (behind _ _ _ _ _ (omega arith) c.loop-m.invariant.chained)

pub bounds-self-port-in-loop-m : goal.bounds-self-port-in-loop-m
bounds-self-port-in-loop-m c = port_inside _ _ (c.loop-m.m - 1) _ _ _ c.requires (omega arith) (port_is _ _ _ _ c.line_at-line.ensures c.port_of-port.ensures) (behind _ _ _ _ _ (omega arith) c.loop-m.invariant.chained)

pub loop-m-preserved : goal.loop-m-preserved
loop-m-preserved c = record {
  within = omega arith;
  ports = search rules;
  lines = search rules;
  chained = chain_more _ _ _ _ _ _ c.requires (omega arith) (port_is _ _ _ _ c.line_at-line.ensures c.port_of-port.ensures) (behind _ _ _ _ _ (omega arith) c.loop-m.invariant.chained) c.loop-m.invariant.ports c.loop-m.invariant.lines;
}
