-- What is written are bytes: each number in the encoding of a sound request, assignment or table is below 256. Assumes nothing.
use Prim.Native.Nat.{ℕ, zero, suc, ◌<◌, suc-le-suc}
use mathlib.Core.List.{List, [], ◌∷◌, ◌++◌, map}
use native.Mathlib.Nat.{zero-lt-suc}
use native.Mathlib.Omega.{arith}
use lib.ListN.{length, get_or}
use Rattle.model.specs.Sizes.{network_kind, circuit_kind, offsets_kind, line_kind, end_kind}
use Rattle.model.specs.Tests.{joined}
use Rattle.model.specs.Bytes.{AreBytes, byte_at, word, record_of}
use Rattle.model.specs.Network.{Request, no_link, no_circuit, circuit_of}
use Rattle.model.specs.Holding.{offsets_of}
use Rattle.model.specs.Lines.{no_line, line_of}
use Rattle.model.specs.declared.Line.{Line}
use Rattle.model.specs.Jobs.{link_bytes, circuit_bytes, request_bytes, assignment_bytes, line_body, table_bytes}
use Rattle.model.specs.Sound.{SoundRequest, SoundOffsets, SoundLine, SoundTable}
use Rattle.model.proofs.Sound.{rises_at}

-- ---- lists of bytes

record Are (l : List ℕ) : Type 0 where
  each : AreBytes l

none : Are []
none = record { each = λ i. omega arith }

next : {a : ℕ} {l : List ℕ} → a < 256 → Are l → Are (a ∷ l)
next {a} {l} h t = record { each = go }
  where
    go : (i : ℕ) → byte_at (a ∷ l) i < 256
    go zero = h
    go (suc i) = t.each i

both : {a b : List ℕ} → Are a → Are b → Are (a ++ b)
both {a} {b} f g = go a f
  where
    go : (l : List ℕ) → Are l → Are (l ++ b)
    go [] f = g
    go (x ∷ l) f = next (f.each 0) (go l (record { each = λ i. f.each (suc i) }))

all : {A : Type 0} (f : A → List ℕ) (d : A) (xs : List A) → ((i : ℕ) → i < length xs → Are (f (get_or xs i d))) → Are (joined (map f xs))
unfolding joined
all f d [] h = none
all f d (x ∷ xs) h = both (h 0 (zero-lt-suc _)) (all f d xs (λ i l. h (suc i) (suc-le-suc l)))

below : (l : List ℕ) → ((i : ℕ) → i < length l → get_or l i 0 < 256) → Are l
below [] h = none
below (x ∷ l) h = next (h 0 (zero-lt-suc _)) (below l (λ i k. h (suc i) (suc-le-suc k)))

in_word : (n : ℕ) → Are (word n)
in_word n = next (omega arith) (next (omega arith) none)

in_record : (kind : ℕ) {body : List ℕ} → Are body → Are (record_of kind body)
unfolding record_of
in_record kind {body} b = both (both (in_word (length body)) (in_word kind)) b

-- ---- the three files

module _ (q : Request) (sound : SoundRequest q) where
  links : Are (joined (map link_bytes q.network.links))
  links =
      all link_bytes no_link q.network.links
      (λ b h. next (omega (arith, sound.owned b h, sound.routers)) (next (omega (arith, sound.leads b h, sound.routers)) none))

  circuit : (c : ℕ) → c < length q.circuits → Are (circuit_bytes (circuit_of q c))
  circuit c h =
      let p = sound.path c h in
      next (omega (arith, p.short)) (next (omega (arith, p.room, p.short)) (next (omega (arith, p.few)) (next (omega arith)
      (all word 0 (circuit_of q c).path (λ j k. in_word _)))))

  pub request_bytes_lem : AreBytes (request_bytes q)
  unfolding request_bytes
  request_bytes_lem =
      (both (both (in_record network_kind (both (both (in_word q.network.routers) (in_word (length q.network.links))) links))
      (all (λ c. record_of circuit_kind (circuit_bytes c)) no_circuit q.circuits (λ c h. in_record circuit_kind (circuit c h))))
      (in_record end_kind none)).each

  pub assignment_bytes_lem : (assigned : List (List ℕ)) → SoundOffsets q assigned → AreBytes (assignment_bytes assigned)
  unfolding assignment_bytes
  assignment_bytes_lem assigned offsets =
      (both (all (record_of offsets_kind) [] assigned (λ c h. in_record offsets_kind (below (offsets_of assigned c) (low c h)))) (in_record end_kind none)).each
    where
      low : (c : ℕ) → c < length assigned → (i : ℕ) → i < length (offsets_of assigned c) → get_or (offsets_of assigned c) i 0 < 256
      low c h i k =
          let here : c < length q.circuits = omega (arith, offsets.each) in
          omega (arith, (rises_at 0 (circuit_of q c).cycle (offsets_of assigned c) (offsets.suits c here).rises i k).1, (sound.path c here).short)

  pub table_bytes_lem : (table : List Line) → SoundTable q.network table → AreBytes (table_bytes table)
  unfolding table_bytes
  table_bytes_lem table good =
      (both (all (λ l. record_of line_kind (line_body l)) no_line table (λ m h. in_record line_kind (line (line_of table m) (good.each m h)))) (in_record end_kind none)).each
    where
      line : (l : Line) → SoundLine q.network l → Are (line_body l)
      line l s =
          both (both (next (omega (arith, s.router, sound.routers)) (next (omega (arith, s.short)) (next (omega (arith, s.slot, s.short)) (next (omega arith) none))))
          (in_word l.inp)) (in_word l.out)
