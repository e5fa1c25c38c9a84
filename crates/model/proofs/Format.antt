-- Which bytes read without a fault: a file reads exactly where it is the encoding of a sound request (assignment, table), and it is that of
-- one only. Assumes nothing.
use Prim.Native.Nat.{ℕ, ◌≤◌}
use mathlib.Core.Path.{◌≡◌, sym, ap, ◌∙◌}
use mathlib.Core.Logic.{◌↔◌}
use mathlib.Core.List.{List}
use mathlib.Core.Option.{none}
use lib.ListN.{length}
use Rattle.model.specs.Sizes.{buffers_most, table_file}
use Rattle.model.specs.Bytes.{AreBytes}
use Rattle.model.specs.Network.{Network, Request}
use Rattle.model.specs.declared.Line.{Line}
use Rattle.model.specs.Reading.{request, assignment, table_walk, table}
use Rattle.model.specs.Answers.{damage}
use Rattle.model.specs.Jobs.{request_bytes, assignment_bytes, table_bytes, request_fault, assignment_fault}
use Rattle.model.specs.Sound.{SoundRequest, SoundOffsets, SoundTable}
use Rattle.model.proofs.Readers.{request_sound, offsets_sound, table_sound}
use Rattle.model.proofs.Encoded.{request_encoded, assignment_encoded, table_encoded}
use Rattle.model.proofs.Writes.{assignment_back, table_back}
use Rattle.model.proofs.RequestBack.{request_back}

-- ---- the request

pub request_format : (s : List ℕ) → AreBytes s → (request_fault s ≡ none) ↔ ((q : Request) × SoundRequest q × (s ≡ request_bytes q))
request_format s bytes = (
  λ e. (request s, request_sound s e, request_encoded s bytes e),
  λ r. rw r.2 (request_back r.0 r.1).0,
)

pub request_one : (q r : Request) → SoundRequest q → SoundRequest r → request_bytes q ≡ request_bytes r → q ≡ r
request_one q r f g e = sym (request_back q f).1 ∙ ap request e ∙ (request_back r g).1

-- ---- the assignment of a sound request

module _ (q : Request) (sound : SoundRequest q) where
  pub assignment_format : (s : List ℕ) → AreBytes s → (assignment_fault q s ≡ none) ↔ ((a : List (List ℕ)) × SoundOffsets q a × (s ≡ assignment_bytes a))
  assignment_format s bytes = (
    λ e. (assignment q s, offsets_sound q s e, assignment_encoded q s bytes e),
    λ r. rw r.2 (assignment_back q r.0 sound r.1).0,
  )

  pub assignment_one : (a b : List (List ℕ)) → SoundOffsets q a → SoundOffsets q b → assignment_bytes a ≡ assignment_bytes b → a ≡ b
  assignment_one a b f g e = sym (assignment_back q a sound f).1 ∙ ap (assignment q) e ∙ (assignment_back q b sound g).1

-- ---- the table over a network

module _ (net : Network) (few : length net.links ≤ buffers_most) where
  pub table_format : (s : List ℕ) → AreBytes s → (damage table_file (table_walk net s) ≡ none) ↔ ((t : List Line) × SoundTable net t × (s ≡ table_bytes t))
  table_format s bytes = (
    λ e. (table net s, table_sound net s e, table_encoded net s bytes e),
    λ r. rw r.2 (table_back net r.0 few r.1).0,
  )

  pub table_one : (t u : List Line) → SoundTable net t → SoundTable net u → table_bytes t ≡ table_bytes u → t ≡ u
  table_one t u f g e = sym (table_back net t few f).1 ∙ ap (table net) e ∙ (table_back net u few g).1
