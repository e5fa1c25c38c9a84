-- Offsets byte by byte, and the assignment record by record. Assumes nothing.
use Rattle.std.proofs.Common.{ℕ, ◌+◌, ◌≡◌, List, [], ◌∷◌, ◌++◌, map, length, refl, ap, ◌∙◌}
use Rattle.std.proofs.lemmas.Simd.{map-map}
use Rattle.model.specs.Sizes.{head_size, offsets_kind, end_kind}
use Rattle.model.specs.Tests.{joined}
use Rattle.model.specs.Bytes.{record_of}
use Rattle.model.specs.Jobs.{assignment_bytes}
use Rattle.num_mask.specs.Bits.{offsets}
use Rattle.file_writer.proofs.Files.{file_length}
use Rattle.slot_writer.specs.Files.{offsets_record}

-- a byte
abbrev pub byte_of : ℕ → List ℕ
byte_of a = a ∷ []

pub joined-bytes : (xs : List ℕ) → joined (map byte_of xs) ≡ xs
unfolding joined
joined-bytes [] = refl
joined-bytes (x ∷ xs) = ap (λ l. x ∷ l) (joined-bytes xs)

-- the records
abbrev pub parts : List ℕ → List ℕ
parts masks = joined (map offsets_record masks)

pub assignment_is : (masks : List ℕ) → assignment_bytes (map offsets masks) ≡ parts masks ++ record_of end_kind []
unfolding assignment_bytes
assignment_is masks = ap (λ l. joined l ++ record_of end_kind []) (map-map (record_of offsets_kind) offsets masks)

pub assignment-length : (masks : List ℕ) → length (assignment_bytes (map offsets masks)) ≡ length (parts masks) + head_size
assignment-length masks = ap length (assignment_is masks) ∙ file_length (parts masks)
