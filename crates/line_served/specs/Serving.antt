-- Series of all offsets of a mask, and that none has a fault. Assumes nothing: these are definitions.
use Rattle.std.specs.Prelude.{ℕ, ◌≡◌, true, List}
use Rattle.std.proofs.Math.Option.{none}
use Rattle.model.specs.declared.Send.{Send}
use Rattle.num_mask.specs.Bits.{bit}
use Rattle.line_series.specs.Judging.{send_fault}

-- no series of the offsets of a mask has a fault where this send takes them on, whatever its name is
pub record AllServed (t : List ℕ) (lines cycle : ℕ) (send : Send) (mask : ℕ) : Type 0 where
  pub each : (a : ℕ) → bit mask a ≡ true → (c j : ℕ) → send_fault t lines cycle send c a j ≡ none
