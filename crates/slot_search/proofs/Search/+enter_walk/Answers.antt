-- The cycle of calls {enter, walk} meets its contracts. Of `walk` each answer is one way through a turn, by its law in LoopLaws.
-- Assumes nothing.
use Rattle.std.proofs.Common.{ℕ, ◌-◌, ◌<◌, ◌≡◌, map, take, length, ap, sym, ◌∙◌, arith}
use Rattle.std.specs.declared.result.Result.TheVariants.{Ok}
use Rattle.std.specs.Int.Count.{ones}
use Rattle.num_mask.specs.Bits.{offsets}
use Rattle.num_mask.proofs.Laws.{offsets_more}
use Rattle.plan.specs.Plan.{CircuitPlan, circuits_in, cycle_in}
use Rattle.slot_cells.specs.Cells.{SkippedTo}
use Rattle.slot_search.specs.Code.{demand_in}
use Rattle.slot_search.proofs.WalkLaws.{circuit_end, circuit_enter}
use Rattle.slot_search.proofs.EndsLaws.{is_over, ends_same, ends_found}
use Rattle.slot_search.proofs.CellLaws.{earlier_length, own_is}
use Rattle.slot_search.proofs.NumberLaws.{next_le, cell_falls, before_end, at_end, must_take, may_skip, more_wanted}
use Rattle.slot_search.proofs.LoopLaws.{Turn, Nothing, turn_start, above, turn_again, turn_on, still_wanted, tried, not_free}
use Rattle.slot_search.proofs.LoopLaws.{out_answered, out_spent, out_short, out_shut, out_broke, out_end}
use Rattle.slot_search.proofs.Search.+enter_walk.Goals as goal
use Rattle.slot_search.proofs.Search.+enter_walk.Goals.{walk-Else-a-cycle, walk-Joined-shut-a-eq0}
use Rattle.slot_search.proofs.Search.+enter_walk.Goals.{walk-then-shut-a-eq0+in_ok-rest+in_ok-found+in-NoRoom, walk-else-shut-a-eq0}

-- ---- enter

pub enter-returns-then-c-len : goal.enter-returns-then-c-len
enter-returns-then-c-len t c =
    let x = c.args in
    let last = c.if-c-len.true ∙ c.len.ensures.value in
    ends_same (sym (circuit_end x.self.now.grid.now x.self.now.plan.now x.c (map offsets (take x.c x.taken.now)) last)) (ends_found x.left last)

pub enter-returns : goal.enter-returns
enter-returns t c =
    let x = c.args in
    let k = c.blocked-shut in
    ends_same
    (sym
    (circuit_enter x.self.now.grid.now x.self.now.plan.now x.c (map offsets (take x.c x.taken.now))
    k.result (omega arith) (earlier_length x.taken.now x.c (omega arith)) k.ensures))
    c.walk.ensures

-- ---- walk

pub walk-loop-a-init : goal.walk-loop-a-init
walk-loop-a-init t c =
    let x = c.args in
    let own = own_is x.self.now.plan.now x.at.circuit c.index-deref-c.result c.deref.ensures.0 (omega (arith, c.requires.inside.circuit, ap length c.deref.ensures.0)) c.index-deref-c.is in
    record {
      turn = turn_start x.self.now.grid.now x.self.now.plan.now x.at.circuit x.at.from x.at.mask x.at.shut x.budget x.taken.now c.requires.inside c.told-taken;
      cycle = ap (λ (y : CircuitPlan). y.cycle) own;
      demand = ap (λ (y : CircuitPlan). y.demand) own;
    }

-- the cells up to the next one can only be skipped, by the plan's numbers
skipped : {shut a cycle demand have next d n : ℕ} → cycle ≡ d → demand ≡ n → SkippedTo shut a cycle demand have next → SkippedTo shut a d n have next
skipped e f s = rw (e, f) at s

-- there the turn goes on
passed : (t : ℕ) (c : walk-Else-a-cycle t)
    → Turn c.args.self.now.grid.now c.args.self.now.plan.now c.args.at.circuit c.args.at.from c.args.at.mask c.args.at.shut c.args.budget c.args.taken.now c.loop-a.taken
    c.next_cell-next.result c.in_ok-left.left
passed t c = let i = c.loop-a.invariant in turn_on i.turn (skipped i.cycle i.demand c.next_cell-next.ensures) c.in_ok-left.ensures.kept

-- inside the cycle, and so an offset is wanted
inside : (t : ℕ) (c : walk-Else-a-cycle t) → c.next_cell-next.result < cycle_in c.args.self.now.plan.now c.args.at.circuit
inside t c = before_end c.loop-a.invariant.cycle c.next_cell-next.ensures.within c.if-a-cycle.false

wanted : (t : ℕ) (c : walk-Else-a-cycle t) → ones c.args.at.mask < demand_in c.args.self.now.plan.now c.args.at.circuit
wanted t c = more_wanted c.loop-a.invariant.demand (still_wanted c.next_cell-next.ensures c.if-a-cycle.false)

pub walk-returns-in_err-left : goal.walk-returns-in_err-left
walk-returns-in_err-left t c =
    let i = c.loop-a.invariant in
    rw (is_over c.from_residual.ensures.0) (out_short i.turn (skipped i.cycle i.demand c.next_cell-next.ensures) c.in_err-left.ensures.spent)

pub walk-loop-a-preserved-then-a-cycle : goal.walk-loop-a-preserved-then-a-cycle
walk-loop-a-preserved-then-a-cycle t c =
    let i = c.loop-a.invariant in
    record {
      turn = turn_on i.turn (skipped i.cycle i.demand c.next_cell-next.ensures) c.in_ok-left.ensures.kept;
      cycle = i.cycle;
      demand = i.demand;
    }

pub walk-returns-in_err-rest : goal.walk-returns-in_err-rest
walk-returns-in_err-rest t c =
    let at = (goal.at.walk-returns-in_err-rest t c).Else-a-cycle in
    rw (is_over c.from_residual-in_err-rest.ensures.0)
    (out_spent (passed t at) (inside t at) (wanted t at) c.if-shut-a-eq0.true (omega (arith, c.in_err-rest.ensures.spent)))

pub walk-walk-requires : goal.walk-walk-requires
walk-walk-requires t c =
    let at = (goal.at.walk-walk-requires t c).Else-a-cycle in
    let i = passed t at in
    let in_cycle = inside t at in
    let more = offsets_more (above i in_cycle) in (
      cell_falls (circuits_in c.args.self.now.plan.now - c.args.at.circuit) c.decreases i.started (above i in_cycle).inside,
      record { circuit = c.requires.inside.circuit; within = next_le in_cycle; low = more.low },
    )

pub walk-returns-in_err-found : goal.walk-returns-in_err-found
walk-returns-in_err-found t c =
    let at = (goal.at.walk-returns-in_err-found t c).Else-a-cycle in
    rw (is_over c.from_residual-in_err-found.ensures.0)
    (out_answered (passed t at) (inside t at) (wanted t at) c.if-shut-a-eq0.true c.in_ok-rest.ensures.kept c.in_err-found.was (λ k e. cc) c.walk.ensures)

pub walk-returns-in_default : goal.walk-returns-in_default
walk-returns-in_default t c =
    let at = (goal.at.walk-returns-in_default t c).Else-a-cycle in
    let other = c.in_default.not-NoRoom in
    out_answered (passed t at) (inside t at) (wanted t at) c.if-shut-a-eq0.true c.in_ok-rest.ensures.kept
    c.in_ok-found.was (λ k e. other k (cc)) c.walk.ensures

-- where the ways through a cell meet, taking it came to nothing: it was tried, or was not free
nothing : (t : ℕ) (c : walk-Joined-shut-a-eq0 t) → Nothing (passed t c.before) c.if-shut-a-eq0.taken c.if-shut-a-eq0.left
nothing t c =
    let i = passed t c.before in
    elim c.if-shut-a-eq0.branch [
      | walk-then-shut-a-eq0+in_ok-rest+in_ok-found+in-NoRoom w ↦
          tried i (inside t c.before) (wanted t c.before) w.if-shut-a-eq0.true w.in_ok-rest.ensures.kept
          (w.in_ok-found.was ∙ ap Ok w.in-NoRoom.is) w.walk.ensures w.walk.array_long w.taken-is w.left-is
      | walk-else-shut-a-eq0 w ↦ not_free i w.if-shut-a-eq0.false w.taken-is w.left-is
    ]

pub walk-returns-then-cycle-have : goal.walk-returns-then-cycle-have
walk-returns-then-cycle-have t c =
    let at = goal.at.walk-returns-then-cycle-have t c in
    let i = c.loop-a.invariant in
    out_shut (passed t at.Else-a-cycle) (inside t at.Else-a-cycle) (nothing t at.Joined-shut-a-eq0)
    (must_take i.cycle i.demand (ones c.args.at.mask) c.next_cell-next.result c.if-cycle-have.true)

pub walk-returns-in_err-left-2 : goal.walk-returns-in_err-left-2
walk-returns-in_err-left-2 t c =
    let at = goal.at.walk-returns-in_err-left-2 t c in
    let i = c.loop-a.invariant in
    rw (is_over c.from_residual-in_err-left-2.ensures.0)
    (out_broke (passed t at.Else-a-cycle) (inside t at.Else-a-cycle) (nothing t at.Joined-shut-a-eq0)
    (may_skip i.cycle i.demand (ones c.args.at.mask) c.next_cell-next.result c.if-cycle-have.false) (omega (arith, c.in_err-left-2.ensures.spent)))

pub walk-loop-a-preserved : goal.walk-loop-a-preserved
walk-loop-a-preserved t c =
    let at = goal.at.walk-loop-a-preserved t c in
    let i = c.loop-a.invariant in
    record {
      turn =
          turn_again (passed t at.Else-a-cycle) (inside t at.Else-a-cycle) (nothing t at.Joined-shut-a-eq0)
          (may_skip i.cycle i.demand (ones c.args.at.mask) c.next_cell-next.result c.if-cycle-have.false) c.in_ok-left-2.ensures.kept;
      cycle = i.cycle;
      demand = i.demand;
    }

pub walk-returns : goal.walk-returns
walk-returns t c =
    let i = c.loop-a.invariant in
    out_end i.turn (at_end i.cycle c.loop-a-test.false) c.requires.inside.circuit (omega (arith, i.turn.long, ap length c.deref.ensures.0, c.deref.ensures.1)) c.enter.ensures
