-- What is known of a request file that `read` found whole, for the callers of the reader. Assumes nothing.
use Prim.Native.Nat.{ℕ}
use mathlib.Core.Path.{◌≡◌, sym, ap}
use mathlib.Core.List.{List}
use Rattle.std.specs.declared.result.Result.TheVariants.{Ok}
use Rattle.arrayvec.specs.ArrayVec.{ArrayVec}
use Rattle.model.specs.Reading.{starts, request_walk}
use Rattle.model.specs.Answers.{damage}
use Rattle.model.specs.Sizes.{request_file}
use Rattle.file_records.specs.Walks.{places_of}
use Rattle.file_records.proofs.Endings.{places-whole}
use Rattle.file_parts.specs.Parts.{Starts}

pub starts-whole : (s : List ℕ) (places : ArrayVec ℕ) → Ok places ≡ places_of (request_walk s) → Starts s places.items
starts-whole s places e =
    let whole = places-whole (request_walk s) places e in
    record { fine = ap (damage request_file) whole; are = sym (ap starts whole) }
