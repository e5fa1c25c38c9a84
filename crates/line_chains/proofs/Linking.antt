-- Laws behind `link`: the chains of the lines from m on. Assumes nothing.
use Rattle.std.proofs.Common.{◌≡◌, ℕ, ◌+◌, ◌≤◌, ◌<◌, List, ◌∷◌, get_or, length, sym, ap, ◌∙◌, arith}
use native.Mathlib.Decide.{ℕ_discrete}
use borrow.Author.Tests.{eq-eqb, ne_eqb}
use lib.ListN.{set}
use lib.Seq.{get_or-set_same, get_or-set_other}
use Rattle.model.specs.Sizes.{lines_most, resources_most}
use Rattle.line_chains.specs.Chains.{port_at, has, lines_from, Tabled, Chained}
use Rattle.line_chains.proofs.Numbers.{First, first_is, numbers-end, numbers-here, numbers-skip}

-- at first there are none
pub chain_none : (t : List ℕ) (lines : ℕ) (heads nexts : List ℕ) → ((k : ℕ) → k < resources_most → get_or heads k 0 ≡ lines) → Chained t lines lines heads nexts
chain_none t lines heads nexts all = record {
  first = λ k h. rw (numbers-end (has t k) lines) (all k h);
  onward = λ x a b. absurd (omega arith);
}

-- line m comes before those behind it
module _ (t : List ℕ) (lines m : ℕ) (heads nexts : List ℕ) (p : ℕ) (tabled : Tabled t lines) (low : m < lines) (is : p ≡ port_at t m) (old : Chained t lines (m + 1) heads nexts) where
  pub port_inside : p < resources_most
  port_inside = omega (arith, tabled.port m low)

  pub chain_more : length heads ≡ resources_most → length nexts ≡ lines_most → Chained t lines m (set heads p m) (set nexts m (get_or heads p 0))
  chain_more lh ln = record {
    first = λ k h. first k h (ℕ_discrete k p);
    onward = λ x a b. onward x a b (ℕ_discrete x m);
  }
    where
      first : (k : ℕ) → k < resources_most → Dec (k ≡ p) → get_or (set heads p m) k 0 ≡ get_or (lines_from t lines k m) 0 lines
      first k h (yes e) = rw (e, numbers-here (has t p) lines m low (eq-eqb _ p (sym is))) (get_or-set_same heads p m 0 (omega arith))
      first k h (no e) =
          rw (numbers-skip (has t k) lines m low (ne_eqb (port_at t m) k (λ f. e (sym f ∙ sym is))))
          (get_or-set_other heads p k m 0 e ∙ old.first k h)

      onward : (x : ℕ) → m ≤ x → x < lines → Dec (x ≡ m) → get_or (set nexts m (get_or heads p 0)) x 0 ≡ get_or (lines_from t lines (port_at t x) (x + 1)) 0 lines
      onward x a b (yes e) =
          rw (e, ← is) (get_or-set_same nexts m (get_or heads p 0) 0 (omega (arith, tabled.few)) ∙ old.first p port_inside)
      onward x a b (no e) = get_or-set_other nexts m x (get_or heads p 0) 0 e ∙ old.onward x (omega arith) b

-- ---- where a chain comes: to the first line of its port, and from one to the next

module _ {t : List ℕ} {lines : ℕ} {heads nexts : List ℕ} (chained : Chained t lines 0 heads nexts) where
  pub at_first : {port j : ℕ} → port < resources_most → j ≡ get_or heads port 0 → First (has t port) lines 0 j
  at_first {port} h e = rw (e ∙ chained.first port h) (first_is (has t port) lines 0 (omega arith))

  module _ {port m j : ℕ} (low : m < lines) (on : port_at t m ≡ port) (e : j ≡ get_or nexts m 0) where
    pub at_next : First (has t port) lines (m + 1) j
    at_next = rw (e ∙ chained.onward m (omega arith) low, on) (first_is (has t port) lines (m + 1) (omega arith))

    pub next_more : lines_from t lines port m ≡ m ∷ lines_from t lines port j
    next_more = numbers-here (has t port) lines m low (eq-eqb (port_at t m) port on) ∙ ap (λ l. m ∷ l) (sym at_next.same)
