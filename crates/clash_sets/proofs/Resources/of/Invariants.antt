-- `Resources::of` meets its contract. The loop's invariant: the uses passed are in the set. Assumes nothing.
use Rattle.std.proofs.Common.{ℕ, ◌<◌, slice_index_or}
use Rattle.clash_sets.specs.Sets.{InSet}
use Rattle.clash_sets.proofs.Resources.of.Given as goal

abbrev pub invariant-loop-u : goal.invariant-loop-u
invariant-loop-u l = (k : ℕ) → k < l.u-index → InSet l.set.words (slice_index_or l.u-items k (record { what = 0; after = 0 })).what
