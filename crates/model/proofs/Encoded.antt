-- A file without a fault is the encoding of what is read from it: from each byte on, the file goes on as it would be written. Assumes nothing.
use Prim.Native.Nat.{ℕ, zero, suc, ◌+◌, ◌*◌, ◌/◌, ◌%◌, ◌≤◌, ◌<◌, suc-le-suc}
use mathlib.Core.Path.{◌≡◌, refl, sym, ap, ap₂, ◌∙◌}
use mathlib.Core.Bool.{Bool, false}
use mathlib.Core.List.{List, [], ◌∷◌, ◌++◌, map, append_assoc}
use mathlib.Core.Option.{none, none-ne-some}
use native.Mathlib.Nat.{zero-lt-suc, not-suc-le-zero, le_of_suc-le-suc, mod-eq_of_lt}
use native.Mathlib.Omega.{arith}
use borrow.Author.Tests.{ltb-false}
use lib.ListN.{length, get_or, drop, drop_of_length-le}
use Rattle.std.specs.declared.result.Result.TheVariants.{Ok, Err}
use Rattle.model.specs.Sizes.{head_size, counts_size, link_size, hop_size, line_size, network_kind, circuit_kind, offsets_kind, line_kind, end_kind, circuits_most, lines_most, request_file, assignment_file, table_file}
use Rattle.model.specs.Tests.{joined, up_to}
use Rattle.model.specs.Bytes.{AreBytes, byte_at, word_at, length_at, kind_at, behind, word, record_of}
use Rattle.model.specs.Network.{Network, Request}
use Rattle.model.specs.Reading.{Verdict, faultless, ended, have, walk, Walked, complete, stopped, starts, routers_of, buffers_of, to_place, link_at, network_verdict, hops_at, hop_at, circuit_at, circuit_spare_at, circuit_verdict, request_step, request_walk, request, offset_at, offsets_at, offsets_verdict, assignment_step, assignment_walk, assignment, line_spare_at, line_at, line_verdict, table_step, table_walk, table}
use Rattle.model.specs.Answers.{damage}
use Rattle.model.specs.Jobs.{link_bytes, network_bytes, circuit_bytes, request_bytes, assignment_bytes, line_body, table_bytes, request_fault, assignment_fault}
use Rattle.model.proofs.Tests.{same, length-up_to, map-up_to}
use Rattle.model.proofs.Records.{Ends, step_says, Comes, walk_comes, step_in, passes_at}
use Rattle.model.proofs.Written.{length_pieces, file_of}
use Rattle.model.proofs.Readers.{network_tests_lem, circuit_tests_lem, early, offsets_tests_lem, line_tests_lem, walked_by}

-- ---- the bytes of a file from a place on

drop_byte : (s : List ℕ) (p : ℕ) → p < length s → drop p s ≡ byte_at s p ∷ drop (suc p) s
drop_byte [] p h = absurd (not-suc-le-zero h)
drop_byte (x ∷ s) zero h = refl
drop_byte (x ∷ s) (suc p) h = drop_byte s p (le_of_suc-le-suc h)

module _ (s : List ℕ) where
  -- one byte, and several of them
  from_byte : (p q : ℕ) → q ≡ p + 1 → q ≤ length s → drop p s ≡ byte_at s p ∷ drop q s
  from_byte p q e h = let n : suc p ≡ q = omega arith in drop_byte s p (omega arith) ∙ ap (λ r. byte_at s p ∷ drop r s) n

  from_bytes : (n p : ℕ) (f : ℕ → ℕ) → ((j : ℕ) → j < n → f j ≡ byte_at s (p + j)) → p + n ≤ length s → drop p s ≡ up_to n f ++ drop (p + n) s
  unfolding up_to
  from_bytes zero p f is h = let e : p ≡ p + 0 = omega arith in ap (λ q. drop q s) e
  from_bytes (suc n) p f is h =
      let first : p ≡ p + 0 = omega arith in
      let rest : p + 1 + n ≡ p + suc n = omega arith in
      from_byte p (p + 1) refl (omega arith)
      ∙ ap₂ (λ a l. a ∷ l)
      (ap (byte_at s) first ∙ sym (is 0 (zero-lt-suc n)))
      (from_bytes n (p + 1) (λ j. f (suc j)) (λ j k. let e : p + suc j ≡ p + 1 + j = omega arith in is (suc j) (suc-le-suc k) ∙ ap (byte_at s) e) (omega arith)
      ∙ ap (λ q. up_to n (λ j. f (suc j)) ++ drop q s) rest)

  -- pieces of two bytes
  from_pairs : (n p : ℕ) (f : ℕ → List ℕ) → ((j : ℕ) → j < n → drop (p + 2 * j) s ≡ f j ++ drop (p + 2 * j + 2) s)
      → drop p s ≡ joined (up_to n f) ++ drop (p + 2 * n) s
  unfolding joined up_to
  from_pairs zero p f h = let e : p ≡ p + 2 * 0 = omega arith in ap (λ q. drop q s) e
  from_pairs (suc n) p f h =
      ap (λ q. drop q s) here
      ∙ h 0 (zero-lt-suc n)
      ∙ ap (λ l. f 0 ++ l)
      (ap (λ q. drop q s) there
      ∙ from_pairs n (p + 2) (λ j. f (suc j)) next
      ∙ ap (λ q. joined (up_to n (λ j. f (suc j))) ++ drop q s) end)
      ∙ sym (append_assoc (f 0) (joined (up_to n (λ j. f (suc j)))) _)
    where
      here : p ≡ p + 2 * 0
      here = omega arith

      there : p + 2 * 0 + 2 ≡ p + 2
      there = omega arith

      end : p + 2 + 2 * n ≡ p + 2 * suc n
      end = omega arith

      next : (j : ℕ) → j < n → drop (p + 2 + 2 * j) s ≡ f (suc j) ++ drop (p + 2 + 2 * j + 2) s
      next j k =
          let a : p + 2 + 2 * j ≡ p + 2 * suc j = omega arith in
          let b : p + 2 * suc j + 2 ≡ p + 2 + 2 * j + 2 = omega arith in
          ap (λ q. drop q s) a ∙ h (suc j) (suc-le-suc k) ∙ ap (λ q. f (suc j) ++ drop q s) b

  module _ (bytes : AreBytes s) where
    -- a number of two bytes
    from_word : (p q : ℕ) → q ≡ p + 2 → q ≤ length s → drop p s ≡ word (word_at s p) ++ drop q s
    from_word p q e h =
        let low : byte_at s p ≡ word_at s p % 256 = omega (arith, bytes p) in
        let quotient : word_at s p / 256 ≡ byte_at s (p + 1) = omega (arith, bytes p) in
        let high : byte_at s (p + 1) ≡ word_at s p / 256 % 256 = sym (ap (λ n. n % 256) quotient ∙ mod-eq_of_lt (bytes (p + 1))) in
        from_byte p (p + 1) refl (omega arith)
        ∙ ap (λ l. byte_at s p ∷ l) (from_byte (p + 1) q (omega arith) h)
        ∙ ap₂ (λ a b. a ∷ b ∷ drop q s) low high

    -- a record, where its body is known
    record_here : (p kind : ℕ) (body : List ℕ) → head_size ≤ have s p → kind_at s p ≡ kind → length_at s p ≡ length body
        → drop (p + head_size) s ≡ body ++ drop (behind s p) s → drop p s ≡ record_of kind body ++ drop (behind s p) s
    unfolding record_of
    record_here p kind body h k n b =
        from_word p (p + 2) refl (omega arith)
        ∙ ap (λ l. word (length_at s p) ++ l) (from_word (p + 2) (p + head_size) (omega arith) (omega arith))
        ∙ ap₂ (λ m k. word m ++ (word k ++ drop (p + head_size) s)) n k
        ∙ ap (λ l. word (length body) ++ (word kind ++ l)) b

    end_here : (p : ℕ) → Ends false s p → drop p s ≡ record_of end_kind []
    unfolding record_of
    end_here p x =
        let next : p + head_size ≡ behind s p = omega (arith, x.empty) in
        record_here p end_kind [] x.head x.kind_is x.empty (ap (λ q. drop q s) next)
        ∙ ap (λ l. record_of end_kind [] ++ l) (drop_of_length-le s {i = behind s p} (omega (arith, x.last)))

    -- ---- a walk to the end: a record for each thing that is read, and the end

    module _ {A : Type 0} (kind : ℕ) (body : A → List ℕ) (before_end : ℕ → Bool) (verdict : ℕ → ℕ → Verdict) (read : ℕ → A)
        (each : (n p : ℕ) → verdict n p ≡ faultless → head_size ≤ have s p → kind_at s p ≡ kind → drop p s ≡ record_of kind (body (read p)) ++ drop (behind s p) s)
      where
        chain : (l : List ℕ) (last start : ℕ) → get_or (l ++ (last ∷ [])) 0 0 ≡ start
            → ((n : ℕ) → n < length l → drop (get_or l n 0) s ≡ record_of kind (body (read (get_or l n 0))) ++ drop (get_or (l ++ (last ∷ [])) (suc n) 0) s)
            → drop start s ≡ joined (map (λ x. record_of kind (body x)) (map read l)) ++ drop last s
        unfolding joined
        chain [] last start b h = ap (λ q. drop q s) (sym b)
        chain (x ∷ l) last start b h =
            ap (λ q. drop q s) (sym b)
            ∙ h 0 (zero-lt-suc _)
            ∙ ap (λ l. record_of kind (body (read x)) ++ l) (chain l last (get_or (l ++ (last ∷ [])) 0 0) refl (λ n k. h (suc n) (suc-le-suc k)))
            ∙ sym (append_assoc (record_of kind (body (read x))) _ _)

        pub file_here : (file : ℕ) (k start : ℕ) → damage file (walk k (step_in kind before_end verdict s) [] start) ≡ none
            → drop start s ≡ file_of kind body (map read (starts (walk k (step_in kind before_end verdict s) [] start)))
        file_here file k start e = go (walk k (step_in kind before_end verdict s) [] start) e (walk_comes (step_in kind before_end verdict s) k start _ refl)
          where
            go : (w : Walked) → damage file w ≡ none → Comes (step_in kind before_end verdict s) k start w → drop start s ≡ file_of kind body (map read (starts w))
            go (complete l) e c =
                let x = step_says kind (before_end (length l)) (verdict (length l) c.last) s c.last ended c.end in
                chain l c.last start c.row.begins
                (λ n h.
                let y = passes_at kind before_end verdict s c.row n h in
                each n (get_or l n 0) y.fine y.head y.kind_is ∙ ap (λ q. record_of kind (body (read (get_or l n 0))) ++ drop q s) (sym y.next_is))
                ∙ ap (λ r. joined (map (λ x. record_of kind (body x)) (map read l)) ++ r)
                (end_here c.last (record { head = x.head; kind_is = x.kind_is; late = refl; empty = x.empty; last = x.last }))
            go (stopped f r) e c = absurd (none-ne-some _ (sym e))

-- ---- the table

module _ (net : Network) (s : List ℕ) (bytes : AreBytes s) where
  line_here : (n p : ℕ) → line_verdict net s n p ≡ faultless → head_size ≤ have s p → kind_at s p ≡ line_kind
      → drop p s ≡ record_of line_kind (line_body (line_at s p)) ++ drop (behind s p) s
  line_here n p fine head kind_is =
      let t = line_tests_lem net s n p fine in
      let size : length_at s p ≡ line_size = same (length_at s p) line_size t.1.0 in
      let room : head_size + length_at s p ≤ have s p = ltb-false _ _ t.1.1.0 in
      let spare : line_spare_at s p ≡ 0 = same (line_spare_at s p) 0 t.1.1.1.1.1.1.1.0 in
      record_here s bytes p line_kind (line_body (line_at s p)) head kind_is size
      (from_byte s (p + 4) (p + 5) (omega arith) (omega arith)
      ∙ ap (λ l. byte_at s (p + 4) ∷ l) (from_byte s (p + 5) (p + 6) (omega arith) (omega arith))
      ∙ ap (λ l. byte_at s (p + 4) ∷ byte_at s (p + 5) ∷ l) (from_byte s (p + 6) (p + 7) (omega arith) (omega arith))
      ∙ ap (λ l. byte_at s (p + 4) ∷ byte_at s (p + 5) ∷ byte_at s (p + 6) ∷ l)
      (from_byte s (p + 7) (p + 8) (omega arith) (omega arith)
      ∙ ap₂ (λ a l. a ∷ l) spare
      (from_word s bytes (p + 8) (p + 10) (omega arith) (omega arith)
      ∙ ap (λ l. word (word_at s (p + 8)) ++ l) (from_word s bytes (p + 10) (behind s p) (omega arith) (omega arith)))))

  pub table_encoded : damage table_file (table_walk net s) ≡ none → s ≡ table_bytes (table net s)
  unfolding table_walk table_step table table_bytes
  table_encoded e = file_here s bytes line_kind line_body (λ n. false) (line_verdict net s) (line_at s) line_here table_file (suc lines_most) 0 e

-- ---- the assignment

module _ (q : Request) (s : List ℕ) (bytes : AreBytes s) where
  offsets_here : (n p : ℕ) → offsets_verdict q s n p ≡ faultless → head_size ≤ have s p → kind_at s p ≡ offsets_kind
      → drop p s ≡ record_of offsets_kind (offsets_at s p) ++ drop (behind s p) s
  offsets_here n p fine head kind_is =
      let room : head_size + length_at s p ≤ have s p = ltb-false _ _ (offsets_tests_lem q s n p fine).0.1.1.1.0 in
      record_here s bytes p offsets_kind (offsets_at s p) head kind_is (sym (length-up_to (length_at s p) (offset_at s p)))
      (from_bytes s (length_at s p) (p + head_size) (offset_at s p) (λ j h. refl) (omega arith))

  pub assignment_encoded : assignment_fault q s ≡ none → s ≡ assignment_bytes (assignment q s)
  unfolding assignment_walk assignment_step assignment assignment_bytes
  assignment_encoded e = file_here s bytes offsets_kind (λ x. x) (early q s) (offsets_verdict q s) (offsets_at s) offsets_here assignment_file (suc circuits_most) 0 e

-- ---- the request

written_as : (q : Request) → request_bytes q ≡ record_of network_kind (network_bytes q.network) ++ file_of circuit_kind circuit_bytes q.circuits
unfolding request_bytes
written_as q = append_assoc (record_of network_kind (network_bytes q.network)) _ _

module _ (s : List ℕ) (bytes : AreBytes s) where
  -- a path's buffers, and the links
  path_here : (p : ℕ) → p + 8 + 2 * hops_at s p ≤ length s
      → drop (p + 8) s ≡ joined (map word (circuit_at s p).path) ++ drop (p + 8 + 2 * hops_at s p) s
  path_here p room =
      from_pairs s (hops_at s p) (p + 8) (λ j. word (hop_at s p j)) (λ j h. from_word s bytes (p + 8 + 2 * j) (p + 8 + 2 * j + 2) refl (omega arith))
      ∙ ap (λ l. joined l ++ drop (p + 8 + 2 * hops_at s p) s) (sym (map-up_to word (hops_at s p) (hop_at s p)))

  circuit_here : (n p : ℕ) → circuit_verdict s n p ≡ faultless → head_size ≤ have s p → kind_at s p ≡ circuit_kind
      → drop p s ≡ record_of circuit_kind (circuit_bytes (circuit_at s p)) ++ drop (behind s p) s
  circuit_here n p fine head kind_is =
      let t = circuit_tests_lem s n p fine in
      let room : head_size + length_at s p ≤ have s p = ltb-false _ _ t.0.1.1.1.1.0 in
      let size : length_at s p ≡ counts_size + hop_size * hops_at s p = same _ _ t.0.1.1.1.1.1.1.1.1.1.1.1.0 in
      let spare : circuit_spare_at s p ≡ 0 = same (circuit_spare_at s p) 0 t.1.0 in
      let next : p + 8 + 2 * hops_at s p ≡ behind s p = omega arith in
      let many = length-up_to (hops_at s p) (hop_at s p) in
      let long = length_pieces word (λ n. refl) (circuit_at s p).path in
      record_here s bytes p circuit_kind (circuit_bytes (circuit_at s p)) head kind_is (omega (arith, long, many))
      (from_byte s (p + 4) (p + 5) (omega arith) (omega arith)
      ∙ ap (λ l. byte_at s (p + 4) ∷ l) (from_byte s (p + 5) (p + 6) (omega arith) (omega arith))
      ∙ ap (λ l. byte_at s (p + 4) ∷ byte_at s (p + 5) ∷ l)
      (from_byte s (p + 6) (p + 7) (omega arith) (omega arith)
      ∙ ap₂ (λ a l. a ∷ l) (sym many)
      (from_byte s (p + 7) (p + 8) (omega arith) (omega arith)
      ∙ ap₂ (λ a l. a ∷ l) spare
      (path_here p (omega arith) ∙ ap (λ q. joined (map word (circuit_at s p).path) ++ drop q s) next))))

  links_here : 8 + 2 * buffers_of s ≤ length s → drop 8 s ≡ joined (map link_bytes (up_to (buffers_of s) (link_at s))) ++ drop (8 + 2 * buffers_of s) s
  links_here room =
      from_pairs s (buffers_of s) 8 (λ b. link_bytes (link_at s b)) two
      ∙ ap (λ l. joined l ++ drop (8 + 2 * buffers_of s) s) (sym (map-up_to link_bytes (buffers_of s) (link_at s)))
    where
      two : (b : ℕ) → b < buffers_of s → drop (8 + 2 * b) s ≡ link_bytes (link_at s b) ++ drop (8 + 2 * b + 2) s
      two b h =
          let place : 8 + 2 * b + 1 ≡ to_place b = omega arith in
          from_byte s (8 + 2 * b) (8 + 2 * b + 1) refl (omega arith)
          ∙ ap₂ (λ (f : ℕ) l. f ∷ l) refl
          (from_byte s (8 + 2 * b + 1) (8 + 2 * b + 2) (omega arith) (omega arith) ∙ ap (λ p. byte_at s p ∷ drop (8 + 2 * b + 2) s) place)

  network_here : network_verdict s ≡ faultless → drop 0 s ≡ record_of network_kind (network_bytes (request s).network) ++ drop (behind s 0) s
  unfolding request
  network_here fine =
      let t = (network_tests_lem s fine).0 in
      let head : head_size ≤ have s 0 = omega (arith, ltb-false (length s) head_size t.0) in
      let room : head_size + length_at s 0 ≤ length s = ltb-false _ _ t.1.1.1.1.1.0 in
      let size : length_at s 0 ≡ counts_size + link_size * buffers_of s = same _ _ t.1.1.1.1.1.1.1.1.1.0 in
      let next : 8 + 2 * buffers_of s ≡ behind s 0 = omega arith in
      let many = length-up_to (buffers_of s) (link_at s) in
      let long = length_pieces link_bytes (λ l. refl) (up_to (buffers_of s) (link_at s)) in
      record_here s bytes 0 network_kind (network_bytes (request s).network) head (same (kind_at s 0) network_kind t.1.0) (omega (arith, long, many))
      (from_word s bytes 4 6 refl (omega arith)
      ∙ ap (λ l. word (routers_of s) ++ l)
      (from_word s bytes 6 8 refl (omega arith)
      ∙ ap₂ (λ n l. word n ++ l) (sym many)
      (links_here (omega arith) ∙ ap (λ q. joined (map link_bytes (up_to (buffers_of s) (link_at s))) ++ drop q s) next)))

  encoded_by : (v : Verdict) → network_verdict s ≡ v → damage request_file (walked_by s v) ≡ none
      → s ≡ record_of network_kind (network_bytes (request s).network) ++ file_of circuit_kind circuit_bytes (map (circuit_at s) (starts (walked_by s v)))
  unfolding request_step
  encoded_by (Ok u) fine e =
      network_here fine
      ∙ ap (λ l. record_of network_kind (network_bytes (request s).network) ++ l)
      (file_here s bytes circuit_kind circuit_bytes (λ n. false) (circuit_verdict s) (circuit_at s) circuit_here request_file (suc circuits_most) (behind s 0) e)
  encoded_by (Err f) fine e = absurd (none-ne-some _ (sym e))

  walk_is : request_walk s ≡ walked_by s (network_verdict s)
  unfolding request_walk
  walk_is = refl

  circuits_are : map (circuit_at s) (starts (request_walk s)) ≡ (request s).circuits
  unfolding request
  circuits_are = refl

  pub request_encoded : request_fault s ≡ none → s ≡ request_bytes (request s)
  request_encoded e =
      encoded_by (network_verdict s) refl (rw walk_is at e)
      ∙ ap (λ l. record_of network_kind (network_bytes (request s).network) ++ file_of circuit_kind circuit_bytes l)
      (sym (ap (λ w. map (circuit_at s) (starts w)) walk_is) ∙ circuits_are)
      ∙ sym (written_as (request s))
