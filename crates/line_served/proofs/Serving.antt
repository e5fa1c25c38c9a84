-- Laws behind `all_served`: what one walk over the lines of a port says of all offsets of a mask. Assumes nothing.
use Rattle.std.proofs.Common.{◌≡◌, ◌≢◌, ℕ, ◌+◌, ◌%◌, ◌≤◌, ◌<◌, Bool, true, false, List, [], ◌∷◌, ◌++◌, refl, sym, ap, ◌∙◌, arith}
use Rattle.std.specs.List.{All}
use Rattle.std.proofs.lemmas.List.Elements.{All-nil}
use mathlib.Core.Bool.{◌||◌, or-false}
use mathlib.Core.Option.{none}
use native.Mathlib.Nat.{mod_self, mod-eq_of_lt, mod-lt, mod-add-mod, zero-add}
use native.Mathlib.Decide.{dec_lt, ℕ_discrete}
use borrow.Author.Tests.{lt-ltb, le-ltb, eq-eqb, ne_eqb}
use lib.Dec.{ltb, eqb}
use Rattle.model.specs.Tests.{◌and◌, neg, least, given, ◌else◌}
use Rattle.model.specs.declared.Send.{Send}
use Rattle.model.proofs.Tests.{eq→T, least_is, least_at}
use Rattle.num_divisor.specs.Common.{IsCycle, Common}
use Rattle.num_mask.specs.Bits.{bit, Marked}
use Rattle.num_mask.proofs.Laws.{bit-none, marked_kept, marked_new}
use Rattle.num_cyclic.specs.Ahead.{ahead}
use Rattle.num_cyclic.proofs.Ahead.{ahead_low, ahead_only}
use Rattle.plan.specs.Ports.{port_of}
use Rattle.line_chains.specs.Chains.{line_in, has, lines_at}
use Rattle.line_chains.proofs.Numbers.{holds_of_each}
use Rattle.line_series.specs.Matching.{covers}
use Rattle.line_series.specs.Judging.{meets, serves_part, fault_at}
use Rattle.line_series.proofs.Matching.{agrees_here, agrees_same, covers_here}
use Rattle.line_series.proofs.Least.{T_false, and-false, meets_at, part_at, one_of, again_at, fault_is}
use Rattle.line_served.specs.Residues.{Folds}
use Rattle.line_served.specs.Serving.{AllServed}
use Rattle.line_served.proofs.Folding.{All-more}

part_none : (p m w : Bool) → (p and m) ≡ false → (p and m and neg w) ≡ false
unfolding ◌and◌
part_none true true w e = absurd (T_false true e tt)
part_none true false w e = refl
part_none false m w e = refl

module _ (t : List ℕ) (lines port cycle after out mask : ℕ) where
  abbrev meet : ℕ → ℕ → Bool
  meet a = meets t cycle (a + after)

  -- of the lines ms just one meets the series of offset a, and it serves it
  pub record Once (ms : List ℕ) (a : ℕ) : Type 0 where
    pub wanted : bit mask a ≡ true
    pub inside : a < cycle
    pub line : ℕ
    pub low : line < lines
    pub on : has t port line ≡ true
    pub meets : meet a line ≡ true
    pub whole : covers cycle (a + after) (line_in t line) ≡ true
    pub leads : (line_in t line).out ≡ out
    pub alone : All (λ k. k ≢ line → meet a k ≡ false) ms

  -- met has the offsets whose series one of the lines ms meets
  pub record Serving (met : ℕ) (ms : List ℕ) : Type 0 where
    pub waiting : (a : ℕ) → a < cycle → bit mask a ≡ true → bit met a ≡ false → All (λ k. meet a k ≡ false) ms
    pub once : (a : ℕ) → bit met a ≡ true → Once ms a

  pub serving_none : Serving 0 []
  serving_none = record {
    waiting = λ a l w u. All-nil (λ k. meet a k ≡ false);
    once = λ a b. absurd (T_false (bit 0 a) (bit-none a) (eq→T b));
  }

  -- ---- line m comes, behind the lines ms

  module _ (met : ℕ) (ms : List ℕ) (g : Serving met ms) (m : ℕ) where
    kept : (b : ℕ) → Once ms b → meet b m ≡ false → Once (ms ++ m ∷ []) b
    kept b o here = record {
      wanted = o.wanted;
      inside = o.inside;
      line = o.line;
      low = o.low;
      on = o.on;
      meets = o.meets;
      whole = o.whole;
      leads = o.leads;
      alone = All-more (λ k. k ≢ o.line → meet b k ≡ false) ms m o.alone (λ _. here);
    }

    -- a line that meets no series of the mask's offsets
    past : ((b : ℕ) → b < cycle → bit mask b ≡ true → meet b m ≡ false) → Serving met (ms ++ m ∷ [])
    past missed = record {
      waiting = λ b l w u. All-more (λ k. meet b k ≡ false) ms m (g.waiting b l w u) (missed b l w);
      once = λ b u. let o = g.once b u in kept b o (missed b o.inside o.wanted);
    }

    -- line m as it was read
    module _ (good : IsCycle cycle) {period slot : ℕ} (pe : period ≡ (line_in t m).period) (se : slot ≡ (line_in t m).slot) where
      -- whatever its period is, it meets the series of one offset modulo the common divisor
      pub serving_other : {n folded r : ℕ} {y : Bool} → Common cycle period n → Folds mask n folded → r ≡ ahead n slot after → y ≡ bit folded r → y ≡ false → Serving met (ms ++ m ∷ [])
      unfolding meets
      serving_other {n} {folded} {r} {y} common folds re ye clear = past missed
        where
          apart : (b : ℕ) → b < cycle → bit mask b ≡ true → eqb ((b + after) % n) (slot % n) ≡ false
          apart b h w =
              let here : eqb ((b % n + after) % n) ((0 + slot) % n) ≡ eqb (b % n) (ahead n slot after) = ahead_only n (b % n) after slot (mod-lt b common.low) in
              let same : (b % n + after) % n ≡ (b + after) % n = mod-add-mod b n after in
              let hit : bit folded (b % n) ≡ true = folds.has_all b (omega (arith, good.high)) w in
              rw (same, zero-add slot) at here
              ∙ ne_eqb (b % n) (ahead n slot after) (λ s. T_false (bit folded r) (sym ye ∙ clear) (eq→T (ap (bit folded) (re ∙ sym s) ∙ hit)))

          missed : (b : ℕ) → b < cycle → bit mask b ≡ true → meet b m ≡ false
          missed b h w = sym (agrees_here cycle (b + after) (line_in t m) pe se common) ∙ apart b h w

      -- where it is the cycle, just that of offset a
      module _ (early : (line_in t m).slot < (line_in t m).period) (same : period ≡ cycle) {a : ℕ} (ae : a ≡ ahead cycle slot after) where
        slot_low : slot < cycle
        slot_low = omega arith

        a_low : a < cycle
        a_low = rw ae (ahead_low cycle slot after good.low)

        slot_is : (b : ℕ) → b < cycle → eqb ((b + after) % cycle) slot ≡ eqb b a
        slot_is b h =
            ap (λ z. eqb ((b + after) % cycle) z) (sym (ap (λ z. z % cycle) (zero-add slot) ∙ mod-eq_of_lt slot_low))
            ∙ ahead_only cycle b after slot h
            ∙ ap (eqb b) (sym ae)

        meets_is : (b : ℕ) → b < cycle → meet b m ≡ eqb b a
        unfolding meets
        meets_is b h = sym (agrees_same cycle (b + after) (line_in t m) pe se refl same early) ∙ slot_is b h

        missed : (b : ℕ) → b < cycle → b ≢ a → meet b m ≡ false
        missed b h ne = meets_is b h ∙ ne_eqb b a ne

        covered : covers cycle (a + after) (line_in t m) ≡ true
        covered =
            sym (covers_here cycle (a + after) (line_in t m) pe se (rw same (mod_self cycle)))
            ∙ rw same (slot_is a a_low ∙ eq-eqb a a refl)

        -- an offset that is not in the mask
        pub serving_past : {r : Bool} → r ≡ bit mask a → r ≡ false → Serving met (ms ++ m ∷ [])
        serving_past re h = past (λ b l w. missed b l (λ s. T_false (bit mask a) (sym re ∙ h) (eq→T (rw s at w))))

        -- one of the mask whose series no line has met
        pub serving_on : {met' : ℕ} → m < lines → has t port m ≡ true → bit mask a ≡ true → bit met a ≡ false → (line_in t m).out ≡ out → Marked met a met' → Serving met' (ms ++ m ∷ [])
        serving_on {met'} low on in-it new leads marked = record {
          waiting = λ b l w u. All-more (λ k. meet b k ≡ false) ms m (g.waiting b l w (old b u)) (missed b l (λ s. T_false (bit met' a) (rw s at u) (eq→T (marked_new marked))));
          once = λ b u. pick b u (ℕ_discrete b a);
        }
          where
            bits : (b : ℕ) → b ≢ a → bit met' b ≡ bit met b
            bits b ne = marked.bits b ∙ ap (λ z. bit met b || z) (ne_eqb b a ne) ∙ or-false (bit met b)

            old : (b : ℕ) → bit met' b ≡ false → bit met b ≡ false
            old b u = go (bit met b) refl
              where
                go : (y : Bool) → bit met b ≡ y → bit met b ≡ false
                go true w = absurd (T_false (bit met' b) u (eq→T (marked_kept marked b w)))
                go false w = w

            pick : (b : ℕ) → bit met' b ≡ true → Dec (b ≡ a) → Once (ms ++ m ∷ []) b
            pick b u (no ne) = let o = g.once b (sym (bits b ne) ∙ u) in kept b o (missed b o.inside ne)
            pick b u (yes s) = rw s (record {
              wanted = in-it;
              inside = a_low;
              line = m;
              low = low;
              on = on;
              meets = meets_is a a_low ∙ eq-eqb a a refl;
              whole = covered;
              leads = leads;
              alone = All-more (λ k. k ≢ m → meet a k ≡ false) ms m (λ k d h ne. g.waiting a a_low in-it new k d h) (λ ne. absurd (ne refl));
            })

  -- ---- at the end

  none_of : (p : ℕ → Bool) → ((k : ℕ) → k < lines → p k ≡ false) → ltb (least lines p) lines ≡ false
  none_of p clear = le-ltb _ lines (go (dec_lt (least lines p) lines))
    where
      go : Dec (least lines p < lines) → lines ≤ least lines p
      go (yes l) = absurd (T_false (p (least lines p)) (clear (least lines p) l) ((least_is lines p).found l))
      go (no l) = omega arith

  module _ (a : ℕ) (o : Once (lines_at t lines port) a) where
    others : (k : ℕ) → k < lines → k ≢ o.line → meets_at t lines port cycle (a + after) k ≡ false
    unfolding ◌and◌
    others k h ne = pick (has t port k) refl
      where
        pick : (b : Bool) → has t port k ≡ b → meets_at t lines port cycle (a + after) k ≡ false
        pick true e = rw e (holds_of_each (has t port) lines (λ k. k ≢ o.line → meet a k ≡ false) o.alone k h e ne)
        pick false e = rw e refl

    met_here : meets_at t lines port cycle (a + after) o.line ≡ true
    unfolding ◌and◌
    met_here = rw (o.on, o.meets) refl

    one_is : one_of t lines port cycle (a + after) ≡ o.line
    one_is = least_at lines (meets_at t lines port cycle (a + after)) o.line o.low (eq→T met_here) (λ j l y. T_false _ (others j (omega (arith, o.low)) (λ s. omega arith)) y)

    no_part : (k : ℕ) → k < lines → part_at t lines port cycle (a + after) k ≡ false
    unfolding ◌and◌ neg serves_part
    no_part k h = pick (ℕ_discrete k o.line)
      where
        pick : Dec (k ≡ o.line) → part_at t lines port cycle (a + after) k ≡ false
        pick (yes s) = rw (s, o.on, o.meets, o.whole) refl
        pick (no ne) = part_none (has t port k) (meet a k) _ (others k h ne)

    not_again : (k : ℕ) → k < lines → again_at t lines port cycle (a + after) k ≡ false
    unfolding ◌and◌
    not_again k h = pick (ℕ_discrete k o.line)
      where
        pick : Dec (k ≡ o.line) → again_at t lines port cycle (a + after) k ≡ false
        pick (yes s) = rw (one_is, s, le-ltb o.line o.line (omega arith)) refl
        pick (no ne) = and-false (ltb (one_of t lines port cycle (a + after)) k) (meets_at t lines port cycle (a + after) k) (others k h ne)

    once_fine : (c j : ℕ) → fault_at t lines port cycle (a + after) out c a j ≡ none
    unfolding given ◌else◌ neg
    once_fine c j =
        fault_is t lines port cycle (a + after) out c a j
        ∙ rw (
          one_is,
          lt-ltb o.line lines o.low,
          none_of (part_at t lines port cycle (a + after)) no_part,
          none_of (again_at t lines port cycle (a + after)) not_again,
          eq-eqb (line_in t o.line).out out o.leads,
        )
        refl

-- as a send of a plan
pub serving_all : (t : List ℕ) (lines cycle : ℕ) (s : Send) (mask met : ℕ)
    → Serving t lines (port_of s.router s.inp) cycle s.after s.out mask met (lines_at t lines (port_of s.router s.inp)) → met ≡ mask → AllServed t lines cycle s mask
serving_all t lines cycle s mask met g e = record {
  each = λ a w c j. once_fine t lines (port_of s.router s.inp) cycle s.after s.out mask a (g.once a (rw e w)) c j;
}
