-- `slot_cells::next_cell` meets its contract: the ones of `shut` from a on are the zeros of the word with all bits turned. Assumes nothing.
use Prim.Native.Nat.{ℕ, ◌+◌, ◌-◌, ◌/◌, ◌^◌, ◌≤◌, ◌<◌}
use native.Mathlib.Omega.{arith}
use lib.Count.{count_trailing_zeros, trailing_le}
use Rattle.model.specs.Sizes.{cycle_most}
use Rattle.slot_cells.specs.Cells.{SkippedTo}
use Rattle.slot_cells.proofs.WordLaws.{ones_from}
use Rattle.slot_cells.proofs.next_cell.Goals as goal

-- up to r, where the cells may be skipped so far and are not free so far
up_to : (shut a cycle demand have r : ℕ) → shut < 2 ^ cycle_most → have < demand → a ≤ r → demand + r ≤ cycle + have
    → r ≤ a + count_trailing_zeros cycle_most (2 ^ cycle_most - 1 - shut / 2 ^ a) → SkippedTo shut a cycle demand have r
up_to shut a cycle demand have r fits w l m z = record {
  started = l;
  within = omega arith;
  may = λ q. m;
  none = λ i s h v. ones_from cycle_most shut a i fits s (omega arith);
  full = λ f. absurd (omega arith);
}

pub returns-then-demand-have : goal.returns-then-demand-have
returns-then-demand-have c = record {
  started = omega arith;
  within = omega arith;
  may = λ q. omega arith;
  none = λ i s h v. absurd (omega arith);
  full = λ f. omega arith;
}

pub returns-then-cycle-have : goal.returns-then-cycle-have
returns-then-cycle-have c = record {
  started = omega arith;
  within = omega arith;
  may = λ q. absurd (omega arith);
  none = λ i s h v. absurd (omega arith);
  full = λ f. absurd (omega arith);
}

pub overflow_add-free : goal.overflow_add-free
overflow_add-free c =
    let x = c.args in
    omega (arith, trailing_le cycle_most (2 ^ cycle_most - 1 - x.shut / 2 ^ x.a))

pub returns-then-last-free : goal.returns-then-last-free
returns-then-last-free c =
    let x = c.args in
    up_to x.shut x.a x.cycle x.demand x.have (x.cycle + x.have - x.demand) c.ranges.shut.fits (omega arith) (omega arith) (omega arith) (omega arith)

pub returns : goal.returns
returns c =
    let x = c.args in
    up_to x.shut x.a x.cycle x.demand x.have (x.a + count_trailing_zeros cycle_most (2 ^ cycle_most - 1 - x.shut / 2 ^ x.a)) c.ranges.shut.fits
    (omega arith) (omega arith) (omega arith) (omega arith)
