-- The encoding of a sound request has no fault and reads back as the request. Assumes nothing.
use Prim.Native.Nat.{ℕ, zero, suc, ◌+◌, ◌*◌, ◌%◌, ◌≤◌, ◌<◌}
use mathlib.Core.Path.{◌≡◌, refl, ap, ap₂, ◌∙◌}
use mathlib.Core.Bool.{false}
use mathlib.Core.List.{List, [], ◌∷◌, ◌++◌, map, append_assoc}
use mathlib.Core.Option.{none}
use native.Mathlib.Omega.{arith}
use lib.ListN.{length}
use lib.Dec.{eqb, eqb→eq}
use borrow.Author.Tests.{le-ltb, lt-leb, eq-eqb, ne_eqb}
use Rattle.model.specs.Sizes.{routers_most, buffers_most, circuits_most, cycle_most, hops_most, head_size, network_kind, circuit_kind, counts_size, link_size, hop_size, word_end, request_file}
use Rattle.model.specs.Tests.{neg, up_to}
use Rattle.model.specs.Bytes.{byte_at, word, record_of}
use Rattle.model.specs.Network.{Network, Circuit, Request, no_link, no_circuit, link_of, circuit_of, from_router, to_router, hops, hop}
use Rattle.model.specs.Reading.{faultless, have, onward, go_on, Walked, walk, starts, routers_of, buffers_of, from_of, to_of, link_at, same_pair, bad_link, network_head, network_verdict, hops_at, hop_at, bad_hop, repeated, gap, broken_at, circuit_head, circuit_body, circuit_verdict, request_step, request_walk, circuit_at, request}
use Rattle.model.specs.Answers.{damage}
use Rattle.model.specs.Jobs.{link_bytes, network_bytes, circuit_bytes, request_bytes, request_fault}
use Rattle.model.specs.Sound.{SoundPath, SoundRequest}
use Rattle.model.proofs.Tests.{and→, no_false, some-none, up_to_back}
use Rattle.model.proofs.Written.{word_back, length_record, RecordAt, byte_in, word_in, length_in, kind_in, room_in, length_pieces, piece_in, file_of, Good, walk-behind}

-- ---- the tests of a record's numbers

network_numbers : (bytes len routers buffers : ℕ) → len ≡ counts_size + link_size * buffers → head_size + len ≤ bytes
    → zero < routers → routers ≤ routers_most → buffers ≤ buffers_most → network_head bytes len network_kind routers buffers ≡ faultless
unfolding network_head neg
network_numbers bytes len routers buffers size room some few known = rw (
  le-ltb bytes head_size (omega arith),
  le-ltb len counts_size (omega arith),
  le-ltb (counts_size + link_size * buffers_most) len (omega arith),
  eq-eqb (len % 2) 0 (omega arith),
  le-ltb bytes (head_size + len) room,
  le-ltb routers 1 some,
  le-ltb routers_most routers few,
  le-ltb buffers_most buffers known,
  eq-eqb len (counts_size + link_size * buffers) size,
)

circuit_numbers_lem : {net : Network} {c : Circuit} → SoundPath net c → (n bytes len : ℕ) → n < circuits_most → len ≡ counts_size + hop_size * hops c → head_size + len ≤ bytes
    → circuit_head n bytes len c.cycle c.demand (hops c) ≡ faultless
unfolding circuit_head neg
circuit_numbers_lem {c} path n bytes len few size room = rw (
  lt-leb circuits_most n few,
  le-ltb len (counts_size + hop_size) (omega (arith, path.some)),
  le-ltb (counts_size + hop_size * hops_most) len (omega (arith, path.few)),
  eq-eqb (len % 2) 0 (omega arith),
  le-ltb bytes (head_size + len) room,
  le-ltb c.cycle 1 path.cycle,
  le-ltb cycle_most c.cycle path.short,
  le-ltb c.demand 1 path.wants,
  le-ltb c.cycle c.demand path.room,
  le-ltb (hops c) 1 path.some,
  le-ltb hops_most (hops c) path.few,
  eq-eqb len (counts_size + hop_size * hops c) size,
)

-- ---- a file that begins with the network of a sound request

module _ (q : Request) (sound : SoundRequest q) (s : List ℕ) (net : RecordAt s 0 network_kind (network_bytes q.network)) where
  -- its numbers
  network_long : length (network_bytes q.network) ≡ counts_size + link_size * length q.network.links
  network_long = omega (arith, length_pieces link_bytes (λ l. refl) q.network.links)

  network_short : length (network_bytes q.network) < word_end
  network_short = omega (arith, network_long, sound.buffers)

  routers_back : routers_of s ≡ q.network.routers
  unfolding record_of
  routers_back = word_in net 4 ∙ word_back q.network.routers (omega (arith, sound.routers))

  buffers_back : buffers_of s ≡ length q.network.links
  unfolding record_of
  buffers_back = word_in net 6 ∙ word_back (length q.network.links) (omega (arith, sound.buffers))

  -- its links
  link_byte : (b i : ℕ) → b < length q.network.links → i < 2 → byte_at s (0 + head_size + (counts_size + (2 * b + i))) ≡ byte_at (link_bytes (link_of q.network b)) i
  link_byte = piece_in link_bytes (λ l. refl) no_link (word q.network.routers ++ word (length q.network.links)) q.network.links net

  from_back : (b : ℕ) → b < length q.network.links → from_of s b ≡ from_router q.network b
  from_back b h = ap (byte_at s) (omega arith) ∙ link_byte b 0 h (omega arith)

  to_back : (b : ℕ) → b < length q.network.links → to_of s b ≡ to_router q.network b
  to_back b h = ap (byte_at s) (omega arith) ∙ link_byte b 1 h (omega arith)

  links_back : up_to (buffers_of s) (link_at s) ≡ q.network.links
  links_back = rw buffers_back (up_to_back q.network.links (link_at s) no_link (λ b h i. record { from = from_back b h i; to = to_back b h i }))

  -- it is let pass
  pair_fine : (b : ℕ) → b < length q.network.links → (a : ℕ) → a < b → same_pair s b a ≡ false
  unfolding same_pair
  pair_fine b h a l =
      let k : a < length q.network.links = omega arith in
      rw (from_back a k, to_back a k, from_back b h, to_back b h)
      (no_false _ (λ t. let u = and→ _ _ t in omega (arith, sound.pairs a b k h (eqb→eq _ _ u.0) (eqb→eq _ _ u.1))))

  link_fine : (b : ℕ) → b < length q.network.links → bad_link s q.network.routers b ≡ false
  unfolding bad_link
  link_fine b h = rw (
    some-none b (same_pair s b) (pair_fine b h),
    from_back b h,
    to_back b h,
    lt-leb q.network.routers (from_router q.network b) (sound.owned b h),
    lt-leb q.network.routers (to_router q.network b) (sound.leads b h),
    ne_eqb (from_router q.network b) (to_router q.network b) (sound.differ b h),
  )

  network_fine : network_verdict s ≡ faultless
  unfolding network_verdict
  network_fine = rw (
    length_in net network_short,
    kind_in net (omega arith),
    routers_back,
    buffers_back,
    network_numbers (length s) (length (network_bytes q.network)) q.network.routers (length q.network.links) network_long (omega (arith, room_in net)) sound.some sound.routers sound.buffers,
    some-none (length q.network.links) (bad_link s q.network.routers) link_fine,
  )

  -- ---- a sound circuit in it

  module _ (c : Circuit) (path : SoundPath q.network c) where
    circuit_long : length (circuit_bytes c) ≡ counts_size + hop_size * hops c
    circuit_long = omega (arith, length_pieces word (λ n. refl) c.path)

    circuit_short : length (circuit_bytes c) < word_end
    circuit_short = omega (arith, circuit_long, path.few)

    module _ (p : ℕ) (r : RecordAt s p circuit_kind (circuit_bytes c)) where
      -- its hops
      hop_byte : (j i : ℕ) → j < hops c → i < 2 → byte_at s (p + head_size + (counts_size + (2 * j + i))) ≡ byte_at (word (hop c j)) i
      hop_byte = piece_in word (λ n. refl) 0 (c.cycle ∷ c.demand ∷ hops c ∷ 0 ∷ []) c.path r

      hop_back : (j : ℕ) → j < hops c → hop_at s p j ≡ hop c j
      hop_back j h =
          ap₂ (λ a b. a + 256 * b) (ap (byte_at s) (omega arith) ∙ hop_byte j 0 h (omega arith)) (ap (byte_at s) (omega arith) ∙ hop_byte j 1 h (omega arith))
          ∙ word_back (hop c j) (omega (arith, path.known j h, sound.buffers))

      path_back : up_to (hops_at s p) (hop_at s p) ≡ c.path
      unfolding record_of
      path_back = rw (byte_in r 6) (up_to_back c.path (hop_at s p) 0 hop_back)

      circuit_back : circuit_at s p ≡ c
      unfolding record_of
      circuit_back = λ i. record { cycle = byte_in r 4 i; demand = byte_in r 5 i; path = path_back i }

      -- it is let pass
      hop_fine : (j : ℕ) → j < hops c → bad_hop s p (length q.network.links) j ≡ false
      hop_fine j h = rw (hop_back j h) (lt-leb (length q.network.links) (hop c j) (path.known j h))

      new_hop : (j : ℕ) → j < hops c → repeated s p j ≡ false
      new_hop j h =
          some-none j (λ i. eqb (hop_at s p i) (hop_at s p j))
          (λ i l.
          let k : i < hops c = omega arith in
          rw (hop_back i k, hop_back j h) (ne_eqb (hop c i) (hop c j) (λ e. omega (arith, path.once i j k h e))))

      no_gap : (j : ℕ) → j < hops c → gap s p j ≡ false
      unfolding gap neg
      no_gap zero h = refl
      no_gap (suc i) h =
          let k : i < hops c = omega arith in
          rw (
            hop_back i k,
            hop_back (suc i) h,
            to_back (hop c i) (path.known i k),
            from_back (hop c (suc i)) (path.known (suc i) h),
            eq-eqb (to_router q.network (hop c i)) (from_router q.network (hop c (suc i))) (path.joined i h),
          )

      unbroken : (j : ℕ) → j < hops c → broken_at s p j ≡ false
      unfolding broken_at
      unbroken j h = rw (new_hop j h, no_gap j h)

      circuit_fine : (n : ℕ) → n < circuits_most → circuit_verdict s n p ≡ faultless
      unfolding circuit_verdict circuit_body neg record_of
      circuit_fine n few = rw (
        length_in r circuit_short,
        byte_in r 4,
        byte_in r 5,
        byte_in r 6,
        byte_in r 7,
        buffers_back,
        circuit_numbers_lem path n (have s p) (length (circuit_bytes c)) few circuit_long (omega (arith, room_in r)),
        some-none (hops c) (bad_hop s p (length q.network.links)) hop_fine,
        some-none (hops c) (broken_at s p) unbroken,
      )

    circuit_good : (n : ℕ) → n < circuits_most → Good circuit_kind circuit_bytes s (circuit_verdict s) (circuit_at s) n c
    circuit_good n few = record { short = circuit_short; fine = λ p r. circuit_fine p r n few; back = circuit_back }

-- ---- the request

module _ (q : Request) (sound : SoundRequest q) (s : List ℕ) (file : s ≡ record_of network_kind (network_bytes q.network) ++ file_of circuit_kind circuit_bytes q.circuits) where
  net : RecordAt s 0 network_kind (network_bytes q.network)
  net = record { before = []; rest = file_of circuit_kind circuit_bytes q.circuits; file = file; start = refl }

  -- the walk over the circuits, from a byte on; they begin behind the network
  abbrev circuits_from : ℕ → Walked
  circuits_from p = walk (suc circuits_most) (request_step s) [] p

  abbrev begin : ℕ
  begin = length (record_of network_kind (network_bytes q.network))

  whole : request_walk s ≡ circuits_from begin
  unfolding request_walk
  whole =
      ap (λ v. go_on (onward s 0 v) [] circuits_from) (network_fine q sound s net)
      ∙ ap circuits_from (omega (arith, length_in net (network_short q sound s net), length_record network_kind (network_bytes q.network)))

  circuits_back : (damage request_file (circuits_from begin) ≡ none) × (map (circuit_at s) (starts (circuits_from begin)) ≡ q.circuits)
  unfolding request_step
  circuits_back =
      walk-behind circuit_kind circuit_bytes s (circuit_verdict s) (circuit_at s) (λ n. false) no_circuit (omega arith) (λ e. omega arith) request_file circuits_most
      (record_of network_kind (network_bytes q.network)) q.circuits file sound.circuits
      (λ n h. circuit_good q sound s net (circuit_of q n) (sound.path n h) n (omega (arith, sound.circuits)))
      refl

  file_back : (request_fault s ≡ none) × (request s ≡ q)
  unfolding request
  file_back = (
    rw whole circuits_back.0,
    λ i. record {
      network = record { routers = routers_back q sound s net i; links = links_back q sound s net i };
      circuits = (ap (λ w. map (circuit_at s) (starts w)) whole ∙ circuits_back.1) i;
    },
  )

pub request_back : (q : Request) → SoundRequest q → (request_fault (request_bytes q) ≡ none) × (request (request_bytes q) ≡ q)
unfolding request_bytes
request_back q sound = file_back q sound (request_bytes q) (append_assoc (record_of network_kind (network_bytes q.network)) _ _)
