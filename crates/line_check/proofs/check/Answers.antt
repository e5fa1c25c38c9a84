-- `line_check::check` meets its contract. The loop's invariant: the circuits before c have no fault. Assumes nothing.
use Rattle.std.proofs.Common.{◌≡◌, refl, ◌∙◌, arith}
use Rattle.plan_refusal.specs.Found.{found}
use Rattle.plan_refusal.proofs.Firsts.{clear_found, clear_all}
use Rattle.line_check.specs.Checks.{fault_in}
use Rattle.plan_refusal.proofs.Firsts.{handed_on}
use Rattle.line_check.proofs.Standing.{faults_are}
use Rattle.line_check.proofs.check.Goals as goal

pub returns-in_err-check_circuit : goal.returns-in_err-check_circuit
returns-in_err-check_circuit c =
    let here : found c.check_circuit.result ≡ fault_in c.args.b.now.plan.now c.args.b.now.masks.now c.args.table.now.bytes.now c.args.table.now.lines c.loop-c.c = c.check_circuit.ensures ∙ rw (c.of.ensures.circuit, c.of.ensures.offsets) refl in
    λ q assigned f.
    handed_on _ _ c.from_residual.ensures.1
    ∙ clear_found _ c.loop-c.c c.loop-c.invariant c.check_circuit.result here _ (omega arith) _ c.in_err-check_circuit.was
    ∙ faults_are q assigned _ _ _ _ f

pub returns : goal.returns
returns c = λ q assigned f. clear_all _ _ c.loop-c.c (omega arith) c.loop-c.invariant ∙ faults_are q assigned _ _ _ _ f
