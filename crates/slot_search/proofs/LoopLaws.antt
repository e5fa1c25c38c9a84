-- The loop over a circuit's cells. What a turn leaves says how the walk from here on answers for the walk from the loop's start.
-- Each law is one way through a turn, and its arguments are what the code's tests and calls tell there. Assumes nothing.
use mathlib.Core.Path.{◌≡◌, refl, sym, ap, ◌∙◌, subst}
use mathlib.Core.Bool.{Bool, true, false}
use mathlib.Core.List.{List, [], ◌∷◌, ◌++◌, map}
use Prim.Native.Nat.{ℕ, zero, suc, ◌+◌, ◌-◌, ◌*◌, ◌/◌, ◌%◌, ◌^◌, ◌≤◌, ◌<◌}
use native.Mathlib.Nat.{lt_of_lt_of_le, add-zero, sub-zero}
use native.Mathlib.Decide.{dec_lt}
use native.Mathlib.Omega.{arith}
use lib.ListN.{length, take, set}
use lib.Pow.{pow_mono}
use lib.Dec.{ltb}
use lib.Count.{ones}
use lib.Bits.{bit_or}
use borrow.Author.Tests.{lt-ltb, le-ltb, eq-eqb, ne_eqb, eqb-true}
use Rattle.arrayvec.specs.ArrayVec.{ArrayVec}
use Rattle.plan.specs.declared.Circuit.{Circuit}
use Rattle.model.specs.Sizes.{circuits_most, cycle_most}
use Rattle.model.specs.Tests.{◌and◌, neg}
use Rattle.model.specs.Search.{Walk, choice, then_try}
use Rattle.num_mask.specs.Bits.{bit, offsets, Above}
use Rattle.num_mask.proofs.Laws.{offsets-length, offsets_more}
use Rattle.plan.specs.Plan.{circuits_in, cycle_in}
use Rattle.slot_cells.specs.Cells.{SkippedTo}
use Rattle.plan.proofs.Laws.{fits}
use Rattle.std.specs.declared.result.Result.TheVariants.{Ok}
use Rattle.slot_search.specs.Code.{Walked, over, demand_in, Inside, from_cell, WalkEnds, CircuitEnds, CellEnds}
use Rattle.slot_search.specs.declared.Outcome.TheVariants.{NoRoom}
use Rattle.slot_search.proofs.WalkLaws.{from_take, from_skip, cell_split}
use Rattle.slot_search.proofs.EndsLaws.{ends_same, ends_visit, ends_broke, ends_shut, ends_answered, ends_over, ends_second}
use Rattle.slot_search.proofs.CellLaws.{skip_no, skip_yes, ends_circuit}

-- at cell a of circuit c, with the masks `now` and `left` visits to spare
pub record Turn (grid : List (List (List ℕ))) (p : ArrayVec Circuit) (c from mask shut budget : ℕ) (old now : List ℕ) (a left : ℕ) : Type 0 where
  pub started : from ≤ a
  pub within : a ≤ cycle_in p c
  pub low : mask < 2 ^ a
  pub long : length now ≡ circuits_most
  pub kept : take c now ≡ take c old
  pub goes_on :
      (new : List ℕ) (r : Walked) → CellEnds grid p c a mask shut left now new r → CellEnds grid p c from mask shut budget old new r

pub turn_start : (grid : List (List (List ℕ))) (p : ArrayVec Circuit) (c from mask shut budget : ℕ) (old : List ℕ) → Inside p c from mask → length old ≡ circuits_most
    → Turn grid p c from mask shut budget old old from budget
turn_start grid p c from mask shut budget old h long = record {
  started = omega arith;
  within = h.within;
  low = h.low;
  long = long;
  kept = refl;
  goes_on = λ new r g. g;
}

and_no : (b : Bool) → (b and false) ≡ false
unfolding ◌and◌
and_no true = refl
and_no false = refl

module _ {grid : List (List (List ℕ))} {p : ArrayVec Circuit} {c from mask shut budget : ℕ} {old now : List ℕ} {a left : ℕ}
    (t : Turn grid p c from mask shut budget old now a left) where
  abbrev D : ℕ
  D = cycle_in p c

  abbrev N : ℕ
  N = demand_in p c

  abbrev before : List (List ℕ)
  before = map offsets (take c now)

  -- the walk from the loop's start came to r
  abbrev pub Whole : List ℕ → Walked → Type 0
  Whole new r = CellEnds grid p c from mask shut budget old new r

  abbrev on : Walk
  on = from_cell grid p c shut before (D - (a + 1)) (a + 1) (offsets mask ++ (a ∷ []))

  abbrev taking : Walk
  taking = from_take grid p c before shut (D - (a + 1)) a (offsets mask)

  abbrev skipping : List ℕ → Walk
  skipping mid = from_skip grid p c (map offsets (take c mid)) shut (D - (a + 1)) a (offsets mask)

  -- the walk where the cell is taken came to r
  abbrev pub Tried : List ℕ → Walked → Type 0
  Tried mid r = WalkEnds taking (circuits_in p) c left now mid r

  -- what the code's call for a cell that is taken ensures
  abbrev pub Called : (rest : ℕ) → List ℕ → Walked → Type 0
  Called rest mid r = CellEnds grid p c (a + 1) (bit_or mask ((1 * 2 ^ a) % 2 ^ cycle_most)) shut rest now mid r

  pub word : mask < 2 ^ cycle_most
  word = lt_of_lt_of_le t.low (pow_mono {i = a} {j = cycle_most} (let x = t.within in let y = (fits p c).cycle.high in omega arith))

  pub above : a < D → Above mask a
  above i = let x = (fits p c).cycle.high in record { inside = omega arith; low = t.low }

  -- ---- whether take is allowed

  flag : {b : Bool} → (ltb (length (offsets mask)) N and neg (bit shut a)) ≡ b → taking ≡ choice b on
  unfolding from_take
  flag e = ap (λ (b : Bool). choice b on) e

  take_full : N ≤ ones mask → taking ≡ choice false on
  unfolding ◌and◌
  take_full h =
      let n = offsets-length mask word in
      flag (ap (λ (b : Bool). b and neg (bit shut a)) (le-ltb (length (offsets mask)) N (omega arith)))

  take-barred : (shut / 2 ^ a % 2 ≡ 0 → ⊥) → taking ≡ choice false on
  unfolding bit neg
  take-barred h =
      let fewer = ltb (length (offsets mask)) N in
      flag (ap (λ (b : Bool). fewer and neg b) (eq-eqb (shut / 2 ^ a % 2) 1 (omega arith)) ∙ and_no fewer)

  take_open : ones mask < N → shut / 2 ^ a % 2 ≡ 0 → taking ≡ choice true on
  unfolding bit ◌and◌ neg
  take_open l h =
      let n = offsets-length mask word in
      let x = lt-ltb (length (offsets mask)) N (omega arith) in
      let y = ne_eqb (shut / 2 ^ a % 2) 1 (λ q. omega arith) in
      flag (ap (λ (b : Bool). b and neg (bit shut a)) x ∙ ap neg y)

  -- ---- taking the cell

  -- the code's call came to r, as o has it
  tried_by : a < D → ones mask < N → shut / 2 ^ a % 2 ≡ 0 → {rest : ℕ} → rest + 1 ≡ left → {mid : List ℕ} {r o : Walked} → r ≡ o → Called rest mid r → Tried mid o
  tried_by i l h {rest} z {mid} {r} {o} e g =
      ends_same (sym (take_open l h))
      (ends_visit z
      (ends_same (ap (λ (k : List ℕ). from_cell grid p c shut before (D - (a + 1)) (a + 1) k) (offsets_more (above i)).parts)
      (subst (λ (q : Walked). Called rest mid q) e g)))

  -- where the ways through a cell meet, with the masks `new` and k visits to spare: it was tried and came to nothing, or was not allowed
  abbrev pub Nothing : List ℕ → ℕ → Type 0
  Nothing new k = (length new ≡ circuits_most) × Tried new (Ok (NoRoom k))

  pub tried : a < D → ones mask < N → shut / 2 ^ a % 2 ≡ 0 → {rest : ℕ} → rest + 1 ≡ left → {mid new : List ℕ} {r : Walked} {m k : ℕ}
      → r ≡ Ok (NoRoom m) → Called rest mid r → length mid ≡ circuits_most → new ≡ mid → k ≡ m → Nothing new k
  tried i l h z {mid} {new} {r} {m} {k} e g s x y = rw (x, y) (s, tried_by i l h z e g)

  not_taken : {new : List ℕ} {k : ℕ} → taking ≡ choice false on → new ≡ now → k ≡ left → Nothing new k
  not_taken e x y = rw (x, y) (t.long, ends_same (sym e) (ends_shut on left))

  pub not_free : (shut / 2 ^ a % 2 ≡ 0 → ⊥) → {new : List ℕ} {k : ℕ} → new ≡ now → k ≡ left → Nothing new k
  not_free h x y = not_taken (take-barred h) x y

  pub not_wanted : N ≤ ones mask → {new : List ℕ} {k : ℕ} → new ≡ now → k ≡ left → Nothing new k
  not_wanted h x y = not_taken (take_full h) x y

  -- ---- the ways out of a turn, and on to the next

  module _ (inside : a < D) where
    split : from_cell grid p c shut before (D - a) a (offsets mask) ≡ then_try taking (skipping now)
    split = cell_split grid p c before shut D a (offsets mask) inside

    -- the code's call came to an answer, or the budget is spent
    pub out_answered : ones mask < N → shut / 2 ^ a % 2 ≡ 0 → {rest : ℕ} → rest + 1 ≡ left → {mid : List ℕ} {r o : Walked} → r ≡ o
        → ((k : ℕ) → o ≡ Ok (NoRoom k) → ⊥) → Called rest mid r → Whole mid o
    out_answered l h z {mid} {r} {o} e other g = t.goes_on mid o (ends_same (sym split) (ends_answered (skipping now) o other (tried_by inside l h z e g)))

    pub out_spent : ones mask < N → shut / 2 ^ a % 2 ≡ 0 → left ≡ 0 → Whole now over
    out_spent l h z = t.goes_on now over (ends_same (sym split) (ends_over (skipping now) (ends_same (sym (take_open l h)) (ends_broke on left z))))

    after-take : {mid new : List ℕ} {k : ℕ} {r : Walked} → Nothing mid k → WalkEnds (skipping mid) (circuits_in p) c k mid new r → Whole new r
    after-take {mid} {new} {k} {r} h g =
        let same : skipping mid ≡ skipping now =
        ap (λ (x : List ℕ). from_skip grid p c (map offsets x) shut (D - (a + 1)) a (offsets mask)) h.1.kept in
        t.goes_on new r (ends_same (sym split) (ends_second h.1 (ends_same same g)))

    -- the walk past the cell, which is the skip where that is allowed
    abbrev past : List ℕ → Walk
    past mid = from_cell grid p c shut (map offsets (take c mid)) (D - (a + 1)) (a + 1) (offsets mask)

    allowed : (mid : List ℕ) → N + a < D + ones mask → choice true (past mid) ≡ skipping mid
    allowed mid q = sym (skip_yes grid p c (map offsets (take c mid)) shut D a mask word inside q)

    not_allowed : (mid : List ℕ) → D + ones mask ≤ N + a → choice false (past mid) ≡ skipping mid
    not_allowed mid q = sym (skip_no grid p c (map offsets (take c mid)) shut D a mask word inside q)

    pub out_shut : {mid : List ℕ} {k : ℕ} → Nothing mid k → D + ones mask ≤ N + a → Whole mid (Ok (NoRoom k))
    out_shut {mid} {k} h q = after-take h (ends_same (not_allowed mid q) (ends_shut (past mid) k))

    pub out_broke : {mid : List ℕ} {k : ℕ} → Nothing mid k → N + a < D + ones mask → k ≡ 0 → Whole mid over
    out_broke {mid} {k} h q z = after-take h (ends_same (allowed mid q) (ends_broke (past mid) k z))

    pub turn_again : {mid : List ℕ} {k rest : ℕ} → Nothing mid k → N + a < D + ones mask → rest + 1 ≡ k
        → Turn grid p c from mask shut budget old mid (a + 1) rest
    turn_again {mid} {k} h q z =
        let s = t.started in
        record {
          started = omega arith;
          within = omega arith;
          low = lt_of_lt_of_le t.low (pow_mono {i = a} {j = a + 1} (omega arith));
          long = h.0;
          kept = h.1.kept ∙ t.kept;
          goes_on = λ new r g. after-take h (ends_same (allowed mid q) (ends_visit z g));
        }

  -- the last cell is behind
  pub out_end : D ≤ a → c < circuits_in p → circuits_in p ≤ length now → {new : List ℕ} {r : Walked}
      → CircuitEnds grid p (c + 1) left (set now c mask) new r → Whole new r
  out_end e listed room {new} {r} h =
      let w = t.within in
      t.goes_on new r (ends_circuit grid p c shut a mask left now new r (omega arith) listed room h)

-- ---- cells that can only be skipped

set-bit : (x i : ℕ) → bit x i ≡ true → x / 2 ^ i % 2 ≡ 0 → ⊥
unfolding bit
set-bit x i e z = omega (arith, eqb-true (x / 2 ^ i % 2) 1 e)

module _ {grid : List (List (List ℕ))} {p : ArrayVec Circuit} {c from mask shut budget : ℕ} {old now : List ℕ} {a left r : ℕ}
    (t : Turn grid p c from mask shut budget old now a left)
    (s : SkippedTo shut a (cycle_in p c) (demand_in p c) (ones mask) r) where
  abbrev At : ℕ → ℕ → Type 0
  At = Turn grid p c from mask shut budget old now

  -- at one of them, with k visits to spare
  only_skipped : (i k : ℕ) → a ≤ i → i < r → (u : At i k) → Nothing u now k
  only_skipped i k l h u = go (dec_lt (ones mask) (demand_in p c))
    where
      go : Dec (ones mask < demand_in p c) → Nothing u now k
      go (yes wanted) = not_free u (set-bit shut i (s.none i l h wanted)) refl refl
      go (no full) = not_wanted u (omega arith) refl refl

  turn_past : (n : ℕ) → a + n ≤ r → n ≤ left → At (a + n) (left - n)
  turn_past zero h q = rw (add-zero a, sub-zero left) t
  turn_past (suc n) h q =
      let u = turn_past n (omega arith) (omega arith) in
      let m = s.may (omega arith) in
      let w = s.within in
      let on = turn_again u (omega arith) {rest = left - suc n} (only_skipped (a + n) (left - n) (omega arith) (omega arith) u) (omega arith) (omega arith) in
      subst (λ (x : ℕ). At x (left - suc n)) (omega arith) on

  -- past all of them
  pub turn_on : {rest : ℕ} → rest + (r - a) ≡ left → At r rest
  turn_on {rest} h =
      let b = s.started in
      subst (λ (x : ℕ). At x rest) (omega arith) (subst (λ (y : ℕ). At (a + (r - a)) y) (omega arith) (turn_past (r - a) (omega arith) (omega arith)))

  -- the budget ends among them
  pub out_short : left < r - a → Whole t now over
  out_short h =
      let u = turn_past left (omega arith) (omega arith) in
      let m = s.may (omega arith) in
      let w = s.within in
      out_broke u (omega arith) (only_skipped (a + left) (left - left) (omega arith) (omega arith) u) (omega arith) (omega arith)

-- not at the end, and so one is wanted
pub still_wanted : {shut a cycle demand have r : ℕ} → SkippedTo shut a cycle demand have r → (r ≡ cycle → ⊥) → have < demand
still_wanted {shut} {a} {cycle} {demand} {have} s h = go (dec_lt have demand)
  where
    go : Dec (have < demand) → have < demand
    go (yes w) = w
    go (no f) = absurd (h (s.full (omega arith)))
