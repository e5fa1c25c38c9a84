-- The assignment that a job writes, by masks. Assumes nothing: these are definitions.
use Rattle.std.specs.Prelude.{ℕ, List}
use Rattle.model.specs.Sizes.{offsets_kind}
use Rattle.model.specs.Bytes.{record_of}
use Rattle.num_mask.specs.Bits.{offsets}

-- the offsets record of a mask
abbrev pub offsets_record : ℕ → List ℕ
offsets_record m = record_of offsets_kind (offsets m)
