-- What a series has met by the least numbers that pass, as the model has it. Assumes nothing.
use Rattle.std.proofs.Common.{◌≡◌, ◌≢◌, ℕ, zero, suc, ◌+◌, ◌≤◌, ◌<◌, Bool, true, false, cond, List, Option, Some, None, refl, arith}
use Rattle.std.specs.List.{find}
use Rattle.std.specs.Option.{MatchOption}
use native.Mathlib.Decide.{ℕ_discrete}
use borrow.Author.Tests.{lt-ltb, le-ltb, ltb-true}
use lib.Dec.{T, ltb, eqb}
use mathlib.Core.Option.{Option as Found}
use Rattle.model.specs.Tests.{◌and◌, neg, least, given, ◌else◌}
use Rattle.model.specs.declared.Answer.{Answer}
use Rattle.model.specs.declared.Answer.TheVariants.{Unserved, Partly, Twice, Astray}
use Rattle.model.proofs.Tests.{T→eq, eq→T, and→, →and, least_is, least_at, least_end}
use Rattle.line_chains.specs.Chains.{line_in, has, numbers}
use Rattle.line_chains.proofs.Numbers.{numbers-end, numbers-here, numbers-skip}
use Rattle.line_series.specs.Judging.{second, meets, serves_part, told, fault_at}

pub T_false : (b : Bool) → b ≡ false → T b → ⊥
T_false b e t = rw e at t

pub and-false : (a b : Bool) → b ≡ false → (a and b) ≡ false
unfolding ◌and◌
and-false true b e = e
and-false false b e = refl

-- i, where it is below n
abbrev pub below : (n i : ℕ) → Option ℕ
below n i = cond (ltb i n) (Some i) None

-- ---- of the numbers below n that h lets pass, the first and the second that q does

module _ (h q : ℕ → Bool) (n : ℕ) where
  abbrev both : ℕ → Bool
  both k = h k and q k

  both_true : {k : ℕ} → h k ≡ true → q k ≡ true → both k ≡ true
  unfolding ◌and◌
  both_true a b = rw (a, b) refl

  both_skip : {k : ℕ} → h k ≡ false → both k ≡ false
  unfolding ◌and◌
  both_skip a = rw a refl

  -- r is the first from i on
  abbrev FirstIs : ℕ → Option ℕ → Type 0
  FirstIs i r = MatchOption r ((k : ℕ) → i ≤ k → k < n → both k ≡ false) (λ x. (i ≤ x) × (x < n) × (both x ≡ true) × ((k : ℕ) → i ≤ k → k < x → both k ≡ false))

  first_past : (i : ℕ) (r : Option ℕ) → both i ≡ false → FirstIs (i + 1) r → FirstIs i r
  first_past i None e f = λ k a b. pick k a b (ℕ_discrete k i)
    where
      pick : (k : ℕ) → i ≤ k → k < n → Dec (k ≡ i) → both k ≡ false
      pick k a b (yes s) = rw s e
      pick k a b (no s) = f k (omega arith) b
  first_past i (Some x) e (low, high, here, clear) = (omega arith, high, here, λ k a b. pick k a b (ℕ_discrete k i))
    where
      pick : (k : ℕ) → i ≤ k → k < x → Dec (k ≡ i) → both k ≡ false
      pick k a b (yes s) = rw s e
      pick k a b (no s) = clear k (omega arith) b

  first_by : (d i : ℕ) → i + d ≡ n → FirstIs i (find q (numbers h n i))
  first_by zero i e = let s : i ≡ n = omega arith in rw (s, numbers-end h n) (λ k a b. absurd (omega arith))
  first_by (suc d) i e = pick (h i) refl (q i) refl (first_by d (i + 1) (omega arith))
    where
      pick : (a : Bool) → h i ≡ a → (b : Bool) → q i ≡ b → FirstIs (i + 1) (find q (numbers h n (i + 1))) → FirstIs i (find q (numbers h n i))
      pick true u true w f = rw (numbers-here h n i (omega arith) u, w) (omega arith, omega arith, both_true u w, λ k a b. absurd (omega arith))
      pick true u false w f = rw (numbers-here h n i (omega arith) u, w) (first_past i _ (and-false (h i) (q i) w) f)
      pick false u b w f = rw (numbers-skip h n i (omega arith) u) (first_past i _ (both_skip u) f)

  pub find_numbers : find q (numbers h n 0) ≡ below n (least n both)
  find_numbers = go _ (first_by n 0 (omega arith))
    where
      go : (r : Option ℕ) → FirstIs 0 r → r ≡ below n (least n both)
      go None f = let e : least n both ≡ n = least_end n both (λ j l t. T_false _ (f j (omega arith) l) t) in rw (e, le-ltb n n (omega arith)) refl
      go (Some x) (low, high, here, clear) =
          let e : least n both ≡ x = least_at n both x high (eq→T here) (λ j l t. T_false _ (clear j (omega arith) l) t) in
          rw (e, lt-ltb x n high) refl

  -- r is the second from i on
  abbrev SecondIs : ℕ → Option ℕ → Type 0
  SecondIs i r =
      MatchOption r ((j k : ℕ) → i ≤ j → j < k → k < n → both j ≡ true → both k ≡ false)
      (λ y. (x : ℕ) × (i ≤ x) × (x < y) × (y < n) × (both x ≡ true) × (both y ≡ true) × ((k : ℕ) → i ≤ k → k < y → k ≢ x → both k ≡ false))

  second_past : (i : ℕ) (r : Option ℕ) → both i ≡ false → SecondIs (i + 1) r → SecondIs i r
  second_past i None e f = λ j k a b l t. pick j k a b l t (ℕ_discrete j i)
    where
      pick : (j k : ℕ) → i ≤ j → j < k → k < n → both j ≡ true → Dec (j ≡ i) → both k ≡ false
      pick j k a b l t (yes s) = absurd (T_false (both i) e (eq→T (rw s at t)))
      pick j k a b l t (no s) = f j k (omega arith) b l t
  second_past i (Some y) e (x, low, up, high, one, two, clear) = (x, omega arith, up, high, one, two, λ k a b ne. pick k a b ne (ℕ_discrete k i))
    where
      pick : (k : ℕ) → i ≤ k → k < y → k ≢ x → Dec (k ≡ i) → both k ≡ false
      pick k a b ne (yes s) = rw s e
      pick k a b ne (no s) = clear k (omega arith) b ne

  second_behind : (i : ℕ) (r : Option ℕ) → both i ≡ true → FirstIs (i + 1) r → SecondIs i r
  second_behind i None e f = λ j k a b l t. f k (omega arith) l
  second_behind i (Some y) e (low, high, here, clear) = (i, omega arith, omega arith, high, e, here, λ k a b ne. clear k (omega arith) b)

  second_by : (d i : ℕ) → i + d ≡ n → SecondIs i (second q (numbers h n i))
  second_by zero i e = let s : i ≡ n = omega arith in rw (s, numbers-end h n) (λ j k a b l t. absurd (omega arith))
  second_by (suc d) i e = pick (h i) refl (q i) refl (second_by d (i + 1) (omega arith))
    where
      pick : (a : Bool) → h i ≡ a → (b : Bool) → q i ≡ b → SecondIs (i + 1) (second q (numbers h n (i + 1))) → SecondIs i (second q (numbers h n i))
      pick true u true w f = rw (numbers-here h n i (omega arith) u, w) (second_behind i _ (both_true u w) (first_by d (i + 1) (omega arith)))
      pick true u false w f = rw (numbers-here h n i (omega arith) u, w) (second_past i _ (and-false (h i) (q i) w) f)
      pick false u b w f = rw (numbers-skip h n i (omega arith) u) (second_past i _ (both_skip u) f)

  -- both, behind the first that is
  abbrev again : ℕ → Bool
  again m = ltb (least n both) m and both m

  pub second_numbers : second q (numbers h n 0) ≡ below n (least n again)
  second_numbers = go _ (second_by n 0 (omega arith))
    where
      go : (r : Option ℕ) → SecondIs 0 r → r ≡ below n (least n again)
      go None f =
          let one : ℕ = least n both in
          let e : least n again ≡ n = least_end n again (λ k l t.
          let at = and→ (ltb one k) (both k) t in
          let low : one < k = ltb-true one k (T→eq _ at.0) in
          T_false (both k) (f one k (omega arith) low l (T→eq _ ((least_is n both).found (omega arith)))) at.1) in
          rw (e, le-ltb n n (omega arith)) refl
      go (Some y) (x, low, up, high, one, two, clear) = rw (second_at, lt-ltb y n high) refl
        where
          first_at : least n both ≡ x
          first_at = least_at n both x (omega arith) (eq→T one) (λ k l t. T_false _ (clear k (omega arith) (omega arith) (λ s. omega arith)) t)

          not_again : (k : ℕ) → k < y → Dec (k ≡ x) → T (again k) → ⊥
          not_again k l (yes s) t = T_false (ltb x x) (le-ltb x x (omega arith)) ((and→ (ltb x x) (both x) (rw (first_at, s) at t)).0)
          not_again k l (no s) t = T_false (both k) (clear k (omega arith) l s) ((and→ (ltb (least n both) k) (both k) t).1)

          second_at : least n again ≡ y
          second_at = least_at n again y high (→and _ _ (eq→T (rw first_at (lt-ltb x y up))) (eq→T two)) (λ k l. not_again k l (ℕ_discrete k x))

-- ---- what is told of a series, in the model's words

module _ (t : List ℕ) (lines port cycle start : ℕ) where
  -- line m meets the series at this port; it does without serving it whole; it does behind the first that does
  abbrev pub meets_at : ℕ → Bool
  meets_at m = has t port m and meets t cycle start m

  abbrev pub part_at : ℕ → Bool
  part_at m = has t port m and serves_part t cycle start m

  abbrev pub one_of : ℕ
  one_of = least lines meets_at

  abbrev pub again_at : ℕ → Bool
  again_at m = ltb one_of m and meets_at m

-- the tests 13, 14, 15, 16 in order, where line `one` leads to `led`
abbrev pub fault_by : (lines one part two led out c a j : ℕ) → Found Answer
fault_by lines one part two led out c a j =
    given (neg (ltb one lines)) (Unserved c a j)
    else given (ltb part lines) (Partly c a j part)
    else given (ltb two lines) (Twice c a j two)
    else given (neg (eqb led out)) (Astray c a j one)

told_below : (n : ℕ) (led : ℕ → ℕ) (out c a j one part two : ℕ) → told led out c a j (below n one) (below n part) (below n two) ≡ fault_by n one part two (led one) out c a j
unfolding given ◌else◌ neg
told_below n led out c a j one part two = pick (ltb one n) (ltb part n) (ltb two n)
  where
    pick : (a₁ a₂ a₃ : Bool) → told led out c a j (cond a₁ (Some one) None) (cond a₂ (Some part) None) (cond a₃ (Some two) None)
        ≡ (given (neg a₁) (Unserved c a j) else given a₂ (Partly c a j part) else given a₃ (Twice c a j two) else given (neg (eqb (led one) out)) (Astray c a j one))
    pick false a₂ a₃ = refl
    pick true true a₃ = refl
    pick true false true = refl
    pick true false false = refl

pub fault_is : (t : List ℕ) (lines port cycle start out c a j : ℕ)
    → fault_at t lines port cycle start out c a j
    ≡ fault_by lines (one_of t lines port cycle start) (least lines (part_at t lines port cycle start)) (least lines (again_at t lines port cycle start)) (line_in t (one_of t lines port cycle start)).out out c a j
unfolding fault_at
fault_is t lines port cycle start out c a j =
    rw (find_numbers (has t port) (meets t cycle start) lines, find_numbers (has t port) (serves_part t cycle start) lines, second_numbers (has t port) (meets t cycle start) lines)
    (told_below lines (λ m. (line_in t m).out) out c a j _ _ _)
