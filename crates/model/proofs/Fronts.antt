-- The answer depends only on the front of each file: as many bytes as the longest good file has, and one more. Assumes nothing.
use Prim.Native.Nat.{ℕ, zero, suc, ◌+◌, ◌*◌, ◌-◌, ◌≤◌, ◌<◌}
use mathlib.Core.Path.{◌≡◌, refl, sym, ap, ap₂, ◌∙◌}
use mathlib.Core.Logic.{◌⊎◌, inl, inr}
use mathlib.Core.Bool.{Bool, true, false, cond, ◌||◌}
use mathlib.Core.List.{List, [], ◌∷◌, ◌++◌}
use mathlib.Core.Option.{Option, none, some, none-ne-some}
use native.Mathlib.Nat.{mul-le-mul_right}
use native.Mathlib.Omega.{arith}
use native.Mathlib.Decide.{dec_lt}
use borrow.Author.Tests.{ltb-false, leb-false, lt-ltb, le-ltb, le-leb}
use lib.Dec.{ltb, leb, eqb}
use lib.ListN.{length, take, length-append, length-take}
use lib.Seq.{take_all, get_or-take}
use Rattle.std.specs.declared.option.Option.TheVariants.{Some, None}
use Rattle.std.specs.declared.result.Result.TheVariants.{Ok, Err}
use Rattle.model.specs.Sizes.{request_most, assignment_most, table_most, head_size, counts_size, link_size, hop_size, line_size, buffers_most, circuits_most, hops_most, cycle_most, lines_most, circuit_kind, offsets_kind, line_kind, request_file, assignment_file, table_file}
use Rattle.model.specs.Tests.{◌and◌, neg, some?, ◌else◌, or_else}
use Rattle.model.specs.Bytes.{byte_at, word_at, length_at, kind_at, behind}
use Rattle.model.specs.Network.{Network, Request, circuit_of}
use Rattle.model.specs.Holding.{clash_fault}
use Rattle.model.specs.Lines.{lines_fault, lines_for}
use Rattle.model.specs.Reading.{Verdict, Step, faultless, next_at, judge, and_then, have, onward, end_step, step_at, Walked, go_on, walk, routers_of, buffers_of, from_place, to_place, from_of, to_of, same_pair, bad_link, network_rows, network_verdict, path_place, cycle_at, demand_at, hops_at, hop_at, bad_hop, repeated, gap, broken_at, circuit_rows, circuit_body_rows, circuit_verdict, request_step, request_walk, request, bad_offset, offsets_rows, offsets_verdict, assignment_walk, assignment, router_at, period_at, slot_at, line_spare_at, in_at, out_at, line_rows, line_verdict, table_walk, table}
use Rattle.model.specs.Answers.{damage}
use Rattle.model.specs.Search.{reply, whole}
use Rattle.model.specs.Jobs.{Result, keeps, writes, unless, request_fault, assignment_fault, table_fault, short_fault, assignment_size, table_bytes, read_request, settled, allocate, check_assignment, make_tables, check_tables, Call, read, allot, check, make, verify, result_of}
use Rattle.model.specs.declared.Answer.{Answer}
use Rattle.model.specs.declared.Answer.TheVariants.{Done, Made}
use Rattle.model.specs.declared.Fault.{Fault}
use Rattle.model.proofs.Tests.{same, some_same, some-false, else_none}
use Rattle.model.proofs.Records.{passed, step_says, step_in, length_near}
use Rattle.model.proofs.Readers.{network_tests, link_tests, network_tests_lem, circuit_tests, circuit_tests_lem, walked_by, request_sound, offsets_tests, rising_tests, early, offsets_tests_lem, line_tests, line_tests_lem}

-- ---- tests in order that agree

-- the rows agree, up to the first that holds
data Agree : List (Bool × Fault) → List (Bool × Fault) → Type 0 where
  rest : {rows : List (Bool × Fault)} → Agree rows rows
  row : {b c : Bool} {f : Fault} {rows more : List (Bool × Fault)} → b ≡ c → (b ≡ false → Agree rows more) → Agree ((b, f) ∷ rows) ((c, f) ∷ more)

judge_same : (rows more : List (Bool × Fault)) → Agree rows more → judge rows ≡ judge more
judge_same _ _ rest = refl
judge_same _ _ (row {b} {f} {rows} {more} e agree) = go b (λ h. judge_same rows more (agree h)) ∙ ap (λ d. cond d (Err f) (judge more)) e
  where
    go : (b : Bool) → (b ≡ false → judge rows ≡ judge more) → cond b (Err f) (judge rows) ≡ cond b (Err f) (judge more)
    go true h = refl
    go false h = h refl

and_same : {v v' w w' : Verdict} → v ≡ v' → (v ≡ faultless → w ≡ w') → and_then v w ≡ and_then v' w'
and_same {v} {w} {w'} e f = go v f ∙ ap (λ u. and_then u w') e
  where
    go : (v : Verdict) → (v ≡ faultless → w ≡ w') → and_then v w ≡ and_then v w'
    go (Ok u) f = f refl
    go (Err g) f = refl

-- ---- walks that agree

-- two walks whose steps agree wherever the first comes: up to record number `most`, and at most `size` bytes onward with each
module _ (one two : ℕ → ℕ → Step) (most start size : ℕ)
    (same_step : (n p : ℕ) → n ≤ most → p ≤ start + n * size → one n p ≡ two n p)
    (near : (n p next : ℕ) → one n p ≡ next_at next → next ≤ p + size) where
  walk_same : (k : ℕ) (found : List ℕ) (p : ℕ) → length found + k ≤ suc most → p ≤ start + length found * size → walk k one found p ≡ walk k two found p
  unfolding walk
  walk_same zero found p h a = refl
  walk_same (suc k) found p h a =
      go (one (length found) p) refl (λ next b. walk_same k (found ++ (p ∷ [])) next (omega (arith, more)) (rw more b))
      ∙ ap (λ t. go_on t found (rest_of two)) (same_step (length found) p (omega arith) a)
    where
      more : length (found ++ (p ∷ [])) ≡ suc (length found)
      more = simp length-append (omega arith)

      rest_of : (ℕ → ℕ → Step) → ℕ → Walked
      rest_of step next = walk k step (found ++ (p ∷ [])) next

      go : (t : Step) → one (length found) p ≡ t → ((next : ℕ) → next ≤ start + suc (length found) * size → rest_of one next ≡ rest_of two next)
          → go_on t found (rest_of one) ≡ go_on t found (rest_of two)
      go (Ok (Some next)) e on = on next (omega (arith, near (length found) p next e))
      go (Ok None) e on = refl
      go (Err d) e on = refl

-- ---- files that are alike in front

-- the same bytes up to byte number `most`, and the same length, unless both files have that byte
pub record Alike (most : ℕ) (s t : List ℕ) : Type 0 where
  pub bytes : (i : ℕ) → i ≤ most → byte_at s i ≡ byte_at t i
  pub lengths : (length s ≡ length t) ⊎ ((most < length s) × (most < length t))

pub front_alike : (most k : ℕ) (s : List ℕ) → most < k → Alike most (take k s) s
front_alike most k s h = record { bytes = λ i l. get_or-take k s i 0 (omega arith); lengths = pick (dec_lt most (length s)) }
  where
    pick : Dec (most < length s) → (length (take k s) ≡ length s) ⊎ ((most < length (take k s)) × (most < length s))
    pick (yes l) = inr (omega (arith, length-take k s), l)
    pick (no l) = inl (ap length (take_all k s (omega arith)))

module _ {most : ℕ} {s t : List ℕ} (alike : Alike most s t) where
  word_same : (i : ℕ) → i < most → word_at s i ≡ word_at t i
  word_same i h = ap₂ (λ a b. a + 256 * b) (alike.bytes i (omega arith)) (alike.bytes (i + 1) (omega arith))

  -- a test of the length that says the same of all lengths above `most`
  length_test : (f : ℕ → Bool) → ((m n : ℕ) → most < m → most < n → f m ≡ f n) → f (length s) ≡ f (length t)
  length_test f e = go alike.lengths
    where
      go : (length s ≡ length t) ⊎ ((most < length s) × (most < length t)) → f (length s) ≡ f (length t)
      go (inl q) = ap f q
      go (inr l) = e (length s) (length t) l.0 l.1

  -- whether the file is shorter than n, whether it has fewer than n bytes from p on, and whether it goes on at p
  short_same : (n : ℕ) → n ≤ suc most → ltb (length s) n ≡ ltb (length t) n
  short_same n h = length_test (λ l. ltb l n) (λ a b ha hb. le-ltb a n (omega arith) ∙ sym (le-ltb b n (omega arith)))

  have_same : (p n : ℕ) → p + n ≤ suc most → ltb (have s p) n ≡ ltb (have t p) n
  have_same p n h = length_test (λ l. ltb (l - p) n) (λ a b ha hb. le-ltb (a - p) n (omega arith) ∙ sym (le-ltb (b - p) n (omega arith)))

  on_same : (p : ℕ) → p ≤ most → ltb p (length s) ≡ ltb p (length t)
  on_same p h = length_test (λ l. ltb p l) (λ a b ha hb. lt-ltb p a (omega arith) ∙ sym (lt-ltb p b (omega arith)))

  onward_same : (p : ℕ) {v w : Verdict} → p < most → v ≡ w → onward s p v ≡ onward t p w
  onward_same p {v} h e = go v ∙ ap (onward t p) e
    where
      go : (v : Verdict) → onward s p v ≡ onward t p v
      go (Ok u) = ap (λ n. next_at (p + head_size + n)) (word_same p h)
      go (Err f) = refl

  step_same : (kind : ℕ) (early : Bool) (p : ℕ) {v w : Verdict} → p + head_size ≤ most → v ≡ w → step_at kind early v s p ≡ step_at kind early w t p
  unfolding step_at end_step
  step_same kind early p h e =
      cc
      (have_same p head_size (omega arith), word_same p (omega arith), word_same (p + 2) (omega arith), on_same (p + head_size) h, onward_same p (omega arith) e)

-- two such files, walked over records of one kind: at most so many, with bodies of at most `size` bytes
module _ (kind : ℕ) (early : ℕ → Bool) (verdict other : ℕ → ℕ → Verdict) {most : ℕ} {s t : List ℕ} (alike : Alike most s t)
    (records start size : ℕ) (room : start + records * (head_size + size) + head_size ≤ most)
    (small : (n p : ℕ) → verdict n p ≡ faultless → length_at s p ≤ size)
    (same-verdict : (n p : ℕ) → n ≤ records → p ≤ start + n * (head_size + size) → verdict n p ≡ other n p) where
  file_same : (p : ℕ) → p ≤ start → walk (suc records) (step_in kind early verdict s) [] p ≡ walk (suc records) (step_in kind early other t) [] p
  file_same p h =
      walk_same (step_in kind early verdict s) (step_in kind early other t) records start (head_size + size) step near (suc records) [] p (omega arith) (omega arith)
    where
      step : (n p : ℕ) → n ≤ records → p ≤ start + n * (head_size + size) → step_in kind early verdict s n p ≡ step_in kind early other t n p
      step n p h a = step_same alike kind (early n) p (omega (arith, mul-le-mul_right (head_size + size) h)) (same-verdict n p h a)

      near : (n p next : ℕ) → step_in kind early verdict s n p ≡ next_at next → next ≤ p + (head_size + size)
      near n p next e =
          let here = step_says kind (early n) (verdict n p) s p (next_at next) e in
          omega (arith, here.next_is, small n p here.fine)

-- ---- tables

module _ (net : Network) where
  small_line : (s : List ℕ) (n p : ℕ) → line_verdict net s n p ≡ faultless → length_at s p ≤ line_size
  small_line s n p fine = omega (arith, same (length_at s p) line_size (line_tests_lem net s n p fine).1.0)

  module _ {s t : List ℕ} (alike : Alike table_most s t) where
    line_same : (n p : ℕ) → n ≤ lines_most → p ≤ 0 + n * (head_size + line_size) → line_verdict net s n p ≡ line_verdict net t n p
    unfolding line_verdict
    line_same n p h a = pick (dec_lt n lines_most)
      where
        -- the line's tests in the file f, if h bytes are there
        tests : List ℕ → ℕ → List (Bool × Fault)
        tests f h = line_rows net n h (length_at f p) (router_at f p) (period_at f p) (slot_at f p) (line_spare_at f p) (in_at f p) (out_at f p)

        inside : n < lines_most → judge (line_tests net s n p) ≡ judge (line_tests net t n p)
        inside l =
            let len = word_same alike p (omega arith) in
            let router = alike.bytes (p + 4) (omega arith) in
            let period = alike.bytes (p + 5) (omega arith) in
            let slot = alike.bytes (p + 6) (omega arith) in
            let spare = alike.bytes (p + 7) (omega arith) in
            let inp = word_same alike (p + 8) (omega arith) in
            let out = word_same alike (p + 10) (omega arith) in
            (λ x. judge (line_rows net n (have s p) (len x) (router x) (period x) (slot x) (spare x) (inp x) (out x)))
            ∙ judge_same (tests t (have s p)) (tests t (have t p))
            (row refl λ _. row refl λ size.
            row (have_same alike p (head_size + length_at t p) (omega (arith, same (length_at t p) line_size size))) λ _. rest)

        pick : Dec (n < lines_most) → judge (line_tests net s n p) ≡ judge (line_tests net t n p)
        pick (yes l) = inside l
        pick (no l) = rw (le-leb lines_most n (omega arith))

    pub table_same : table_walk net s ≡ table_walk net t
    unfolding table_walk
    table_same =
        file_same line_kind (λ _. false) (line_verdict net s) (line_verdict net t) alike lines_most 0 line_size (omega arith) (small_line s) line_same 0 (omega arith)

  pub table_short : (s : List ℕ) → damage table_file (table_walk net s) ≡ none → length s ≤ table_most
  unfolding table_walk
  table_short s e = length_near line_kind (λ _. false) (line_verdict net s) s line_size (small_line s) table_file lines_most 0 e

-- ---- assignments

module _ (q : Request) where
  small_offsets : (s : List ℕ) (n p : ℕ) → offsets_verdict q s n p ≡ faultless → length_at s p ≤ cycle_most
  small_offsets s n p fine = ltb-false _ _ (offsets_tests_lem q s n p fine).0.1.1.0

  module _ {s t : List ℕ} (alike : Alike assignment_most s t) where
    offset_same : (p cycle i : ℕ) → p + head_size + i ≤ assignment_most → bad_offset s p cycle i ≡ bad_offset t p cycle i
    unfolding bad_offset
    offset_same p cycle zero h = ap (leb cycle) (alike.bytes (p + head_size + 0) h)
    offset_same p cycle (suc i) h =
        ap₂ (λ a b. leb cycle a || leb a b) (alike.bytes (p + head_size + suc i) h) (alike.bytes (p + head_size + i) (omega arith))

    -- (with more circuits than that, records could stand behind the front)
    module _ (few : length q.circuits ≤ circuits_most) where
      offsets_same : (n p : ℕ) → n ≤ circuits_most → p ≤ 0 + n * (head_size + cycle_most) → offsets_verdict q s n p ≡ offsets_verdict q t n p
      unfolding offsets_verdict
      offsets_same n p h a = pick (dec_lt n (length q.circuits))
        where
          c : ℕ
          c = (circuit_of q n).cycle

          len : length_at s p ≡ length_at t p
          len = word_same alike p (omega arith)

          tests : List ℕ → ℕ → List (Bool × Fault)
          tests f h = offsets_rows n (length q.circuits) h (length_at f p) (circuit_of q n).demand

          head : n < length q.circuits → judge (offsets_tests q s n p) ≡ judge (offsets_tests q t n p)
          head l =
              (λ x. judge (offsets_rows n (length q.circuits) (have s p) (len x) (circuit_of q n).demand))
              ∙ judge_same (tests t (have s p)) (tests t (have t p))
              (row refl λ _. row refl λ _. row refl λ small.
              row (have_same alike p (head_size + length_at t p) (omega (arith, ltb-false cycle_most (length_at t p) small))) λ _. rest)

          body : n < length q.circuits → length_at s p ≤ cycle_most → judge (rising_tests q s n p) ≡ judge (rising_tests q t n p)
          body l small =
              judge_same (rising_tests q s n p) (rising_tests q t n p)
              (row
              (some_same (length_at s p) (bad_offset s p c) (bad_offset t p c) (λ i k. offset_same p c i (omega arith)) ∙ ap (λ m. some? m (bad_offset t p c)) len)
              λ _. rest)

          pick : Dec (n < length q.circuits) → offsets_verdict q s n p ≡ offsets_verdict q t n p
          pick (yes l) = and_same (head l) (λ fine. body l (ltb-false _ _ (passed (offsets_tests q s n p) fine).1.1.0))
          pick (no l) = rw (le-leb (length q.circuits) n (omega arith))

      pub assignment_same : assignment_walk q s ≡ assignment_walk q t
      unfolding assignment_walk
      assignment_same =
          file_same offsets_kind (early q s) (offsets_verdict q s) (offsets_verdict q t) alike circuits_most 0 cycle_most (omega arith) (small_offsets s) offsets_same 0 (omega arith)

  pub assignment_short : (s : List ℕ) → assignment_fault q s ≡ none → length s ≤ assignment_most
  unfolding assignment_walk
  assignment_short s e = length_near offsets_kind (early q s) (offsets_verdict q s) s cycle_most (small_offsets s) assignment_file circuits_most 0 e

-- ---- requests

-- the longest network record, and the longest body of a circuit
abbrev network_end : ℕ
network_end = head_size + counts_size + link_size * buffers_most

abbrev circuit_body_most : ℕ
circuit_body_most = counts_size + hop_size * hops_most

small_network : (s : List ℕ) → network_verdict s ≡ faultless → behind s 0 ≤ network_end
small_network s fine = omega (arith, ltb-false (counts_size + link_size * buffers_most) (length_at s 0) (network_tests_lem s fine).0.1.1.1.0)

small_circuit : (s : List ℕ) (n p : ℕ) → circuit_verdict s n p ≡ faultless → length_at s p ≤ circuit_body_most
small_circuit s n p fine = ltb-false _ _ (circuit_tests_lem s n p fine).0.1.1.0

module _ {s t : List ℕ} (alike : Alike request_most s t) where
  routers_same : routers_of s ≡ routers_of t
  routers_same = word_same alike 4 (omega arith)

  buffers_same : buffers_of s ≡ buffers_of t
  buffers_same = word_same alike 6 (omega arith)

  from_same : (b : ℕ) → b < buffers_most → from_of s b ≡ from_of t b
  from_same b h = alike.bytes (from_place b) (omega arith)

  to_same : (b : ℕ) → b < buffers_most → to_of s b ≡ to_of t b
  to_same b h = alike.bytes (to_place b) (omega arith)

  pair_same : (b a : ℕ) → b < buffers_most → a < buffers_most → same_pair s b a ≡ same_pair t b a
  unfolding same_pair
  pair_same b a hb ha = ap₂ ◌and◌ (ap₂ eqb (from_same a ha) (from_same b hb)) (ap₂ eqb (to_same a ha) (to_same b hb))

  link_same : (routers b : ℕ) → b < buffers_most → bad_link s routers b ≡ bad_link t routers b
  unfolding bad_link
  link_same routers b h =
      let from = from_same b h in
      let to = to_same b h in
      let pairs = some_same b (same_pair s b) (same_pair t b) (λ a l. pair_same b a h (omega arith)) in
      λ x. leb routers (from x) || leb routers (to x) || eqb (from x) (to x) || pairs x

  network_same : network_verdict s ≡ network_verdict t
  unfolding network_verdict
  network_same =
      and_same head (λ fine. links (ltb-false buffers_most (buffers_of s) (passed (network_tests s) fine).1.1.1.1.1.1.1.1.0))
    where
      len : length_at s 0 ≡ length_at t 0
      len = word_same alike 0 (omega arith)

      kind : kind_at s 0 ≡ kind_at t 0
      kind = word_same alike 2 (omega arith)

      tests : List ℕ → ℕ → List (Bool × Fault)
      tests f h = network_rows h (length_at f 0) (kind_at f 0) (routers_of f) (buffers_of f)

      head : judge (network_tests s) ≡ judge (network_tests t)
      head =
          (λ x. judge (network_rows (length s) (len x) (kind x) (routers_same x) (buffers_same x)))
          ∙ judge_same (tests t (length s)) (tests t (length t))
          (row (short_same alike head_size (omega arith)) λ _. row refl λ _. row refl λ _. row refl λ small. row refl λ _.
          row (short_same alike (head_size + length_at t 0) (omega (arith, ltb-false (counts_size + link_size * buffers_most) (length_at t 0) small))) λ _. rest)

      links : buffers_of s ≤ buffers_most → judge (link_tests s) ≡ judge (link_tests t)
      links few =
          judge_same (link_tests s) (link_tests t)
          (row
          (some_same (buffers_of s) (bad_link s (routers_of s)) (bad_link t (routers_of s)) (λ b l. link_same (routers_of s) b (omega arith))
          ∙ ap₂ (λ n r. some? n (bad_link t r)) buffers_same routers_same)
          λ _. rest)

  -- a circuit at byte p that is inside
  module _ (p : ℕ) (inside : p + (head_size + circuit_body_most) ≤ request_most) where
    hop_same : (j : ℕ) → j < hops_most → hop_at s p j ≡ hop_at t p j
    hop_same j h = word_same alike (path_place p j) (omega arith)

    hops_same : hops_at s p ≡ hops_at t p
    hops_same = alike.bytes (p + 6) (omega arith)

    repeated_same : (j : ℕ) → j < hops_most → repeated s p j ≡ repeated t p j
    repeated_same j h = some_same j _ _ (λ i l. ap₂ eqb (hop_same i (omega arith)) (hop_same j h))

    gap_same : (j : ℕ) → j < hops_most → ((i : ℕ) → i ≤ j → hop_at s p i < buffers_most) → gap s p j ≡ gap t p j
    unfolding gap
    gap_same zero h known = refl
    gap_same (suc i) h known =
        ap neg
        (ap₂ eqb
        (to_same (hop_at s p i) (known i (omega arith)) ∙ ap (to_of t) (hop_same i (omega arith)))
        (from_same (hop_at s p (suc i)) (known (suc i) (omega arith)) ∙ ap (from_of t) (hop_same (suc i) h)))

    body_same : buffers_of s ≤ buffers_most → hops_at s p ≤ hops_most → judge (circuit_body_rows s p) ≡ judge (circuit_body_rows t p)
    unfolding broken_at
    body_same few short = judge_same (circuit_body_rows s p) (circuit_body_rows t p) (row spare λ _. row bad λ known. row (broken known) λ _. rest)
      where
        spare : neg (eqb (byte_at s (p + 7)) 0) ≡ neg (eqb (byte_at t (p + 7)) 0)
        spare = ap (λ b. neg (eqb b 0)) (alike.bytes (p + 7) (omega arith))

        bad : some? (hops_at s p) (bad_hop s p (buffers_of s)) ≡ some? (hops_at t p) (bad_hop t p (buffers_of t))
        bad =
            some_same (hops_at s p) (bad_hop s p (buffers_of s)) (bad_hop t p (buffers_of t)) (λ j l. ap₂ leb buffers_same (hop_same j (omega arith)))
            ∙ ap (λ n. some? n (bad_hop t p (buffers_of t))) hops_same

        broken : some? (hops_at s p) (bad_hop s p (buffers_of s)) ≡ false → some? (hops_at s p) (broken_at s p) ≡ some? (hops_at t p) (broken_at t p)
        broken known =
            let low : (j : ℕ) → j < hops_at s p → hop_at s p j < buffers_of s = λ j l. leb-false _ _ (some-false (hops_at s p) (bad_hop s p (buffers_of s)) known j l) in
            some_same (hops_at s p) (broken_at s p) (broken_at t p)
            (λ j l. ap₂ ◌||◌ (repeated_same j (omega arith)) (gap_same j (omega arith) (λ i k. omega (arith, low i (omega arith)))))
            ∙ ap (λ n. some? n (broken_at t p)) hops_same

  circuit_same : buffers_of s ≤ buffers_most → (n p : ℕ) → n ≤ circuits_most → p ≤ network_end + n * (head_size + circuit_body_most)
      → circuit_verdict s n p ≡ circuit_verdict t n p
  unfolding circuit_verdict
  circuit_same few n p h a = pick (dec_lt n circuits_most)
    where
      tests : List ℕ → ℕ → List (Bool × Fault)
      tests f h = circuit_rows n h (length_at f p) (cycle_at f p) (demand_at f p) (hops_at f p)

      head : n < circuits_most → judge (circuit_tests s n p) ≡ judge (circuit_tests t n p)
      head l =
          let len = word_same alike p (omega arith) in
          let cycle = alike.bytes (p + 4) (omega arith) in
          let demand = alike.bytes (p + 5) (omega arith) in
          let hops = alike.bytes (p + 6) (omega arith) in
          (λ x. judge (circuit_rows n (have s p) (len x) (cycle x) (demand x) (hops x)))
          ∙ judge_same (tests t (have s p)) (tests t (have t p))
          (row refl λ _. row refl λ _. row refl λ small. row refl λ _.
          row (have_same alike p (head_size + length_at t p) (omega (arith, ltb-false circuit_body_most (length_at t p) small))) λ _. rest)

      pick : Dec (n < circuits_most) → circuit_verdict s n p ≡ circuit_verdict t n p
      pick (yes l) =
          and_same (head l)
          (λ fine. body_same p (omega arith) few (ltb-false hops_most (hops_at s p) (passed (circuit_tests s n p) fine).1.1.1.1.1.1.1.1.1.1.0))
      pick (no l) = rw (le-leb circuits_most n (omega arith))

  pub request_same : request_walk s ≡ request_walk t
  unfolding request_walk
  request_same = go (network_verdict s) refl ∙ ap (walked_by t) network_same
    where
      go : (v : Verdict) → network_verdict s ≡ v → walked_by s v ≡ walked_by t v
      go (Ok u) e =
          let few : buffers_of s ≤ buffers_most = ltb-false _ _ (network_tests_lem s e).0.1.1.1.1.1.1.1.1.0 in
          file_same circuit_kind (λ _. false) (circuit_verdict s) (circuit_verdict t) alike circuits_most network_end circuit_body_most (omega arith)
          (small_circuit s) (circuit_same few) (behind s 0) (small_network s e)
          ∙ ap (λ n. walk (suc circuits_most) (request_step t) [] (0 + head_size + n)) (word_same alike 0 (omega arith))
      go (Err f) e = refl

pub request_short : (s : List ℕ) → request_fault s ≡ none → length s ≤ request_most
unfolding request_walk
request_short s e = go (network_verdict s) refl e
  where
    go : (v : Verdict) → network_verdict s ≡ v → damage request_file (walked_by s v) ≡ none → length s ≤ request_most
    go (Ok u) fine e =
        omega
        (arith, small_network s fine, length_near circuit_kind (λ _. false) (circuit_verdict s) s circuit_body_most (small_circuit s) request_file circuits_most (behind s 0) e)
    go (Err f) fine e = absurd (none-ne-some _ (sym e))

-- ---- a file and its front

-- the longest good files have so many bytes
pub lengths_are : (request_most ≡ 1548) × (assignment_most ≡ 1156) × (table_most ≡ 49156)
lengths_are = (refl, refl, refl)

-- t stands for the file s: it has the same fault, and where there is none it is the file
pub record StandsFor (fault : List ℕ → Option Answer) (t s : List ℕ) : Type 0 where
  pub same : fault t ≡ fault s
  pub whole : fault s ≡ none → t ≡ s

pub request_stands : (k : ℕ) → request_most < k → (s : List ℕ) → StandsFor request_fault (take k s) s
request_stands k h s = record {
  same = ap (damage request_file) (request_same (front_alike request_most k s h));
  whole = λ e. take_all k s (omega (arith, request_short s e));
}

pub assignment_stands : (k : ℕ) → assignment_most < k → (q : Request) → length q.circuits ≤ circuits_most → (s : List ℕ)
    → StandsFor (assignment_fault q) (take k s) s
assignment_stands k h q few s = record {
  same = ap (damage assignment_file) (assignment_same q (front_alike assignment_most k s h) few);
  whole = λ e. take_all k s (omega (arith, assignment_short q s e));
}

pub table_stands : (k : ℕ) → table_most < k → (q : Request) (s : List ℕ) → StandsFor (table_fault q) (take k s) s
table_stands k h q s = record {
  same = ap (damage table_file) (table_same q.network (front_alike table_most k s h));
  whole = λ e. take_all k s (omega (arith, table_short q.network s e));
}

-- the front with one byte more than the longest good file has
pub request_front : (s : List ℕ) → request_fault (take (suc request_most) s) ≡ request_fault s
request_front s = (request_stands (suc request_most) (omega arith) s).same

pub assignment_front : (q : Request) → length q.circuits ≤ circuits_most → (s : List ℕ)
    → assignment_fault q (take (suc assignment_most) s) ≡ assignment_fault q s
assignment_front q few s = (assignment_stands (suc assignment_most) (omega arith) q few s).same

pub table_front : (q : Request) (s : List ℕ) → table_fault q (take (suc table_most) s) ≡ table_fault q s
table_front q s = (table_stands (suc table_most) (omega arith) q s).same

-- ---- the jobs

-- what is told of a file and, where it has no fault, of what comes behind it: t tells it as well
else_front : {fault : List ℕ → Option Answer} {t s : List ℕ} → StandsFor fault t s → (more : List ℕ → Option Answer)
    → (fault t else more t) ≡ (fault s else more s)
unfolding ◌else◌
else_front {fault} {t} {s} f more = go (fault s) refl
  where
    go : (o : Option Answer) → fault s ≡ o → (fault t else more t) ≡ (fault s else more s)
    go none e = ap (λ l. fault l else more l) (f.whole e)
    go (some a) e = ap (λ o. o else more t) (f.same ∙ e) ∙ sym (ap (λ o. o else more s) e)

else_behind : {x y : Option Answer} (o : Option Answer) → (o ≡ none → x ≡ y) → (o else x) ≡ (o else y)
unfolding ◌else◌
else_behind none e = e refl
else_behind (some a) e = refl

unless_same : {r r' : Result} (old : List ℕ) {o o' : Option Answer} → o ≡ o' → (o' ≡ none → r ≡ r') → unless o old r ≡ unless o' old r'
unless_same {r} {r'} old {o'} e f = ap (λ o. unless o old r) e ∙ go o' f
  where
    go : (o : Option Answer) → (o ≡ none → r ≡ r') → unless o old r ≡ unless o old r'
    go none f = f refl
    go (some a) f = refl

-- a call on the first bytes of its files, so many of each
abbrev pub cut_to : (ofRequest ofAssignment ofTable : ℕ) → Call → Call
cut_to i j k (read req) = read (take i req)
cut_to i j k (allot req budget old) = allot (take i req) budget old
cut_to i j k (check req asg) = check (take i req) (take j asg)
cut_to i j k (make req asg old) = make (take i req) (take j asg) old
cut_to i j k (verify req asg tab) = verify (take i req) (take j asg) (take k tab)

-- a call on the fronts of its files
abbrev pub fronted : Call → Call
fronted = cut_to (suc request_most) (suc assignment_most) (suc table_most)

module _ (i j k : ℕ) (hi : request_most < i) (hj : assignment_most < j) (hk : table_most < k) where
  for_request : (req : List ℕ) → StandsFor request_fault (take i req) req
  for_request req = request_stands i hi req

  for_assignment : (req : List ℕ) → request_fault req ≡ none → (asg : List ℕ) → StandsFor (assignment_fault (request req)) (take j asg) asg
  for_assignment req e asg = assignment_stands j hj (request req) (request_sound req e).circuits asg

  -- tests that come behind a request and an assignment
  files_front : (more : List ℕ → List ℕ → Option Answer) (req asg : List ℕ)
      → (request_fault (take i req) else assignment_fault (request (take i req)) (take j asg) else more (take i req) (take j asg))
      ≡ (request_fault req else assignment_fault (request req) asg else more req asg)
  files_front more req asg =
      else_front (for_request req) (λ r. assignment_fault (request r) (take j asg) else more r (take j asg))
      ∙ else_behind (request_fault req) (λ e. else_front (for_assignment req e asg) (more req))

  -- the answer and the output area are the same
  pub cut_same : (call : Call) → result_of (cut_to i j k call) ≡ result_of call
  unfolding read_request allocate check_assignment make_tables check_tables
  cut_same (read req) = ap (λ o. keeps [] (or_else o Done)) (for_request req).same
  cut_same (allot req budget old) =
      let f = for_request req in
      unless_same old (else_front f (λ r. short_fault (assignment_size (request r)) old))
      (λ e. ap (λ r. settled budget old (reply budget (whole (request r)))) (f.whole ((else_none _ _).0 e).0))
  cut_same (check req asg) =
      ap (λ o. keeps [] (or_else o Done)) (files_front (λ r a. clash_fault (request r) (assignment (request r) a)) req asg)
  cut_same (make req asg old) =
      unless_same old
      (files_front (λ r a. clash_fault (request r) (assignment (request r) a) else short_fault (length (made r a)) old) req asg)
      (λ e.
      let f = (else_none (request_fault req) _).0 e in
      let g = (else_none (assignment_fault (request req) asg) _).0 f.1 in
      ap₂ (λ r a. writes old (Made (length (made r a))) (made r a)) ((for_request req).whole f.0) ((for_assignment req f.0 asg).whole g.0))
    where
      made : List ℕ → List ℕ → List ℕ
      made r a = table_bytes (lines_for (request r) (assignment (request r) a))
  cut_same (verify req asg tab) =
      ap (λ o. keeps [] (or_else o Done))
      (files_front (λ r a. table_fault (request r) (take k tab) else tested r a (take k tab)) req asg
      ∙ else_behind (request_fault req) (λ _.
      else_behind (assignment_fault (request req) asg) (λ _.
      else_front (table_stands k hk (request req) tab) (tested req asg))))
    where
      tested : List ℕ → List ℕ → List ℕ → Option Answer
      tested r a t =
          clash_fault (request r) (assignment (request r) a) else lines_fault (request r) (assignment (request r) a) (table (request r).network t)

pub fronted_same : (call : Call) → result_of (fronted call) ≡ result_of call
fronted_same = cut_same (suc request_most) (suc assignment_most) (suc table_most) (omega arith) (omega arith) (omega arith)
