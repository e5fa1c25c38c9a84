-- Records laid into an area, and files of records. Assumes nothing.
use Prim.Native.Nat.{ℕ, ◌+◌, ◌≤◌}
use mathlib.Core.Path.{◌≡◌, ◌∙◌}
use mathlib.Core.List.{List, [], ◌++◌}
use native.Mathlib.Omega.{arith}
use lib.ListN.{length, length-append}
use Rattle.model.specs.Sizes.{head_size, end_kind}
use Rattle.model.specs.Bytes.{word, record_of}
use Rattle.file_writer.specs.Pasting.{Laid}
use Rattle.file_writer.specs.Files.{Wrote}
use Rattle.file_writer.proofs.Pastes.{pasted-over, pasted_then, laid_then}
use Rattle.file_writer.proofs.Rest.{Rest, rest_end}

-- a head, and the body behind it
pub record_laid : {out₀ out out' head : List ℕ} {at next r : ℕ} (kind : ℕ) (body : List ℕ)
    → head ≡ word (length body) ++ word kind → Laid out₀ at head out next → Laid out next body out' r → at ≤ length out₀ → Laid out₀ at (record_of kind body) out' r
unfolding record_of
record_laid {out₀} {at = at} kind body e h l room = laid_then at (word (length body) ++ word kind) body (rw e at h) l room

-- a file: its parts, and the end record behind them

pub file_length : (bytes : List ℕ) → length (bytes ++ record_of end_kind []) ≡ length bytes + head_size
unfolding record_of
file_length bytes = length-append bytes (record_of end_kind [])

module _ {out₀ out : List ℕ} {parts rest : List ℕ} {at : ℕ} (v : Rest out₀ 0 parts out at rest) (none : rest ≡ []) where
  laid : Laid out₀ 0 parts out at
  laid = rest_end v none

  -- there is room for the end record
  pub end_room : length parts + head_size ≤ length out₀ → at + head_size ≤ length out
  end_room room = omega (arith, v.long, laid.next)

  pub end_laid : {out' : List ℕ} {r : ℕ} → Laid out at (record_of end_kind []) out' r → Wrote (parts ++ record_of end_kind []) out₀ out' r
  end_laid e = record {
    area = pasted_then out₀ 0 parts (record_of end_kind []) laid.area laid.next e.area (omega arith) ∙ pasted-over out₀ _;
    size = omega (arith, laid.next, e.next, length-append parts (record_of end_kind []));
  }
