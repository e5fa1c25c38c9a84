-- Laws of the lines that meet a series, as one more comes. Assumes nothing.
use Rattle.std.proofs.Common.{◌≡◌, ℕ, Bool, true, false, cond, List, [], ◌∷◌, ◌++◌, Some, None, refl, ap, ◌∙◌, not}
use Rattle.std.specs.List.{find}
use Rattle.std.specs.Option.{option_or, option_and}
use Rattle.std.specs.Bool.{then_some}
use Rattle.std.proofs.lemmas.List.Folds.{find-append}
use Rattle.model.specs.Tests.{◌and◌, neg}
use Rattle.line_chains.specs.Chains.{line_in}
use Rattle.line_series.specs.Matching.{agrees, covers}
use Rattle.line_series.specs.Judging.{second, meets, serves_part, met_of}
use Rattle.line_series.specs.declared.Met.{Met}

-- ---- m behind those of a list

module _ (p : ℕ → Bool) (m : ℕ) where
  find-passed : (xs : List ℕ) → p m ≡ false → find p (xs ++ m ∷ []) ≡ find p xs
  find-passed [] e = rw e refl
  find-passed (x ∷ xs) e = ap (cond (p x) (Some x)) (find-passed xs e)

  find-more : (xs : List ℕ) → p m ≡ true → find p (xs ++ m ∷ []) ≡ option_or (find p xs) (Some m)
  find-more xs e = let here : find p (m ∷ []) ≡ Some m = rw e refl in find-append p xs (m ∷ []) ∙ ap (option_or (find p xs)) here

  second-passed : (xs : List ℕ) → p m ≡ false → second p (xs ++ m ∷ []) ≡ second p xs
  second-passed [] e = rw e refl
  second-passed (x ∷ xs) e = rw (find-passed xs e, second-passed xs e) refl

  second-more : (xs : List ℕ) → p m ≡ true → second p (xs ++ m ∷ []) ≡ option_or (second p xs) (option_and (find p xs) (Some m))
  second-more [] e = rw e refl
  second-more (x ∷ xs) e = pick (p x) (find-more xs e) (second-more xs e)
    where
      pick : (b : Bool) → find p (xs ++ m ∷ []) ≡ option_or (find p xs) (Some m)
          → second p (xs ++ m ∷ []) ≡ option_or (second p xs) (option_and (find p xs) (Some m))
          → cond b (find p (xs ++ m ∷ [])) (second p (xs ++ m ∷ [])) ≡ option_or (cond b (find p xs) (second p xs)) (option_and (cond b (Some x) (find p xs)) (Some m))
      pick true f s = f
      pick false f s = s

-- ---- what a series has met, where line m comes

module _ (t : List ℕ) (cycle start m : ℕ) (xs : List ℕ) where
  -- a line that does not meet it
  pub met-passed : agrees cycle start (line_in t m) ≡ false → met_of t cycle start xs ≡ met_of t cycle start (xs ++ m ∷ [])
  unfolding meets serves_part ◌and◌
  met-passed e =
      rw (find-passed (meets t cycle start) m xs e, find-passed (serves_part t cycle start) m xs (rw e refl), second-passed (meets t cycle start) m xs e) refl

  -- one that does
  part-more : (whole : Bool) → agrees cycle start (line_in t m) ≡ true → whole ≡ covers cycle start (line_in t m)
      → find (serves_part t cycle start) (xs ++ m ∷ []) ≡ option_or (find (serves_part t cycle start) xs) (then_some (not whole) m)
  unfolding meets serves_part ◌and◌ neg
  part-more whole here we =
      let last : find (serves_part t cycle start) (m ∷ []) ≡ then_some (not whole) m = rw (here, we) (pick (covers cycle start (line_in t m))) in
      find-append (serves_part t cycle start) xs (m ∷ []) ∙ ap (option_or (find (serves_part t cycle start) xs)) last
    where
      pick : (b : Bool) → cond (neg b) (Some m) None ≡ then_some (not b) m
      pick true = refl
      pick false = refl

  pub met-more : (met : Met) (whole : Bool) → met ≡ met_of t cycle start xs → agrees cycle start (line_in t m) ≡ true → whole ≡ covers cycle start (line_in t m)
      → record { one = option_or met.one (Some m); part = option_or met.part (then_some (not whole) m); two = option_or met.two (option_and met.one (Some m)) } ≡ met_of t cycle start (xs ++ m ∷ [])
  unfolding meets
  met-more met whole e here we =
      rw (e, find-more (meets t cycle start) m xs here, part-more whole here we, second-more (meets t cycle start) m xs here) refl
