-- What a write leaves of the blanks behind the places in use. Assumes nothing.
use Rattle.std.proofs.Common.{◌≡◌, ℕ, ◌+◌, ◌-◌, ◌<◌, ◌≤◌, List, [], ◌∷◌, ◌++◌, length, take, drop, set, replicate, sym, ap, ap₂, ◌∙◌, arith, length-set, take-append-drop}
use Rattle.std.proofs.lemmas.List.{drop-drop, drop-set-lt, drop-replicate, take_more_set, replicate_more, replicate-append-replicate}

module _ {T : Type 0} {cap n : ℕ} (xs : List T) (x : T) where
  -- a write to the first blank leaves the others
  pub after_push : (blank : T) → n < cap → drop n xs ≡ replicate (cap - n) blank → drop (n + 1) (set xs n x) ≡ replicate (cap - (n + 1)) blank
  after_push blank lt rest =
      drop-set-lt (n + 1) xs n x (omega arith) ∙ sym (drop-drop 1 n xs) ∙ ap (drop 1) rest
      ∙ drop-replicate 1 (cap - n) blank ∙ ap (λ k. replicate k blank) (omega arith)

-- of a list of n elements the first i places are blank again
pub record Clearing {T : Type 0} (blank : T) (cap n i : ℕ) (xs : List T) : Type 0 where
  pub low : n ≤ cap
  pub long : length xs ≡ cap
  pub front : take i xs ≡ replicate i blank
  pub rest : drop n xs ≡ replicate (cap - n) blank

module _ {T : Type 0} {blank : T} {cap n i : ℕ} {xs : List T} (done : Clearing blank cap n i xs) where
  pub clear_more : i < n → Clearing blank cap n (i + 1) (set xs i blank)
  clear_more lt = record {
    low = done.low;
    long = length-set xs i blank ∙ done.long;
    front = take_more_set xs i blank (omega (arith, done.low, done.long)) ∙ ap (λ l. l ++ blank ∷ []) done.front ∙ replicate_more i blank;
    rest = drop-set-lt n xs i blank lt ∙ done.rest;
  }

  pub clear_done : i ≡ n → xs ≡ replicate (cap - 0) blank
  clear_done e =
      sym (take-append-drop n xs)
      ∙ ap₂ (λ a b. a ++ b) (ap (λ k. take k xs) (sym e) ∙ done.front ∙ ap (λ k. replicate k blank) e) done.rest
      ∙ replicate-append-replicate n (cap - n) blank ∙ ap (λ k. replicate k blank) (omega (arith, done.low))
