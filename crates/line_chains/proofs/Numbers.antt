-- Laws of the numbers that pass: the first of them, and what holds of all. Assumes nothing.
use Rattle.std.proofs.Common.{◌≡◌, ℕ, zero, suc, ◌+◌, ◌-◌, ◌≤◌, ◌<◌, Bool, true, false, [], ◌∷◌, get_or, length, refl, sym, ◌∙◌, arith}
use Rattle.std.specs.List.{All}
use Rattle.line_chains.specs.Chains.{numbers}
use native.Mathlib.Decide.{ℕ_discrete}

module _ (p : ℕ → Bool) (n : ℕ) where
  pub numbers-end : numbers p n n ≡ []
  unfolding numbers
  numbers-end = let e : n - n ≡ 0 = omega arith in rw e refl

  pub numbers-here : (i : ℕ) → i < n → p i ≡ true → numbers p n i ≡ i ∷ numbers p n (i + 1)
  unfolding numbers
  numbers-here i h t = let e : n - i ≡ suc (n - (i + 1)) = omega arith in rw (e, t) refl

  pub numbers-skip : (i : ℕ) → i < n → p i ≡ false → numbers p n i ≡ numbers p n (i + 1)
  unfolding numbers
  numbers-skip i h t = let e : n - i ≡ suc (n - (i + 1)) = omega arith in rw (e, t) refl

  -- j is the first of those from i on, or n where there is none
  pub record First (i j : ℕ) : Type 0 where
    pub low : i ≤ j
    pub high : j ≤ n
    pub found : j < n → p j ≡ true
    pub same : numbers p n j ≡ numbers p n i

  first_by : (d i : ℕ) → i + d ≡ n → First i (get_or (numbers p n i) 0 n)
  first_by zero i e =
      let s : i ≡ n = omega arith in
      rw (s, numbers-end) (record { low = omega arith; high = omega arith; found = λ h. absurd (omega arith); same = refl })
  first_by (suc d) i e = pick (p i) refl (first_by d (i + 1) (omega arith))
    where
      pick : (b : Bool) → p i ≡ b → First (i + 1) (get_or (numbers p n (i + 1)) 0 n) → First i (get_or (numbers p n i) 0 n)
      pick true t f = rw (numbers-here i (omega arith) t) (record { low = omega arith; high = omega arith; found = λ h. t; same = refl })
      pick false t f = rw (numbers-skip i (omega arith) t) (record { low = omega (arith, f.low); high = f.high; found = f.found; same = f.same ∙ sym (numbers-skip i (omega arith) t) })

  pub first_is : (i : ℕ) → i ≤ n → First i (get_or (numbers p n i) 0 n)
  first_is i h = first_by (n - i) i (omega arith)

  -- each of them is below n, and passes
  each_by : (d i : ℕ) → i + d ≡ n → All (λ k. (k < n) × (p k ≡ true)) (numbers p n i)
  each_by zero i e = let s : i ≡ n = omega arith in rw (s, numbers-end) (λ k x h. absurd (omega arith))
  each_by (suc d) i e = pick (p i) refl (each_by d (i + 1) (omega arith))
    where
      pick : (b : Bool) → p i ≡ b → All (λ k. (k < n) × (p k ≡ true)) (numbers p n (i + 1)) → All (λ k. (k < n) × (p k ≡ true)) (numbers p n i)
      pick true t a = rw (numbers-here i (omega arith) t) (λ k x h. at k x h)
        where
          at : (k : ℕ) (x : ℕ) → k < length (i ∷ numbers p n (i + 1)) → (get_or (i ∷ numbers p n (i + 1)) k x < n) × (p (get_or (i ∷ numbers p n (i + 1)) k x) ≡ true)
          at zero x h = (omega arith, t)
          at (suc k) x h = a k x (omega arith)
      pick false t a = rw (numbers-skip i (omega arith) t) a

  pub each_passes : All (λ k. (k < n) × (p k ≡ true)) (numbers p n 0)
  each_passes = each_by n 0 (omega arith)

  -- what holds of all of them holds of each that passes
  module _ (P : ℕ → Type 0) where
    holds_by : (d i : ℕ) → i + d ≡ n → All P (numbers p n i) → (k : ℕ) → i ≤ k → k < n → p k ≡ true → P k
    holds_by zero i e a k low high t = absurd (omega arith)
    holds_by (suc d) i e a k low high t = pick (ℕ_discrete k i) (λ l. holds_by d (i + 1) (omega arith) (onward (p i) refl) k l high t)
      where
        onward : (b : Bool) → p i ≡ b → All P (numbers p n (i + 1))
        onward true here = λ j x h. (rw (numbers-here i (omega arith) here) at a) (suc j) x (omega arith)
        onward false here = rw (numbers-skip i (omega arith) here) at a

        pick : Dec (k ≡ i) → (i + 1 ≤ k → P k) → P k
        pick (yes s) more = rw s ((rw (numbers-here i (omega arith) (rw s at t)) at a) 0 0 (omega arith))
        pick (no s) more = more (omega arith)

    pub holds_of_each : All P (numbers p n 0) → (k : ℕ) → k < n → p k ≡ true → P k
    holds_of_each a k h t = holds_by n 0 (omega arith) a k (omega arith) h t
