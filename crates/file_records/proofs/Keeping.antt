-- What is kept of the starts that a walk finds, where each is counted, and where each is pushed. Assumes nothing.
use Prim.Native.Nat.{ℕ, ◌+◌}
use mathlib.Core.Path.{◌≡◌, sym, ap, ◌∙◌}
use mathlib.Core.List.{List, [], ◌∷◌, ◌++◌, append_assoc, append-nil}
use native.Mathlib.Omega.{arith}
use denote.Ref.{MutBor}
use lib.ListN.{length}
use Rattle.std.specs.List.{FoldsTo}
use Rattle.std.specs.declared.result.Result.{Result}
use Rattle.std.specs.declared.result.Result.TheVariants.{Ok}
use Rattle.arrayvec.specs.ArrayVec.{ArrayVec}
use Rattle.model.specs.Reading.{Walked, complete, stopped}
use Rattle.model.specs.declared.Damage.{Damage}
use Rattle.file_records.specs.Walks.{Kept, Walks, places_of, count_of}

module _ (post : MutBor ℕ → ℕ → Unit {0} → MutBor ℕ → Type 0) (each : (b : MutBor ℕ) (start : ℕ) (c : MutBor ℕ) → post b start tt c → c.now ≡ b.now + 1) where
  pub counted : (starts : List ℕ) (old new : ℕ) → FoldsTo (Kept post) old starts new → new ≡ old + length starts
  counted [] old new f = omega arith
  counted (s ∷ starts) old new f =
      let k : Kept post old s f.0 = f.1 in
      omega (arith, each k.shown s k.left k.called, k.shows, k.leaves, counted starts f.0 new f.2)

  -- what a walk that counted each start comes to
  pub all_counted : (w : Walked) (r : Result ℕ Damage) → Walks post 0 w r → r ≡ count_of w
  all_counted (complete starts) r h = h.2 ∙ ap (λ (n : ℕ). Ok n) (counted starts 0 h.0 h.1 ∙ omega arith)
  all_counted (stopped f p) r h = h

module _ (post : MutBor (ArrayVec ℕ) → ℕ → Unit {0} → MutBor (ArrayVec ℕ) → Type 0)
    (each : (b : MutBor (ArrayVec ℕ)) (start : ℕ) (c : MutBor (ArrayVec ℕ)) → post b start tt c → c.now.items ≡ b.now.items ++ (start ∷ [])) where
  pub pushed : (starts : List ℕ) (old new : ArrayVec ℕ) → FoldsTo (Kept post) old starts new → new.items ≡ old.items ++ starts
  pushed [] old new f = ap (λ (v : ArrayVec ℕ). v.items) (sym f) ∙ sym (append-nil old.items)
  pushed (s ∷ starts) old new f =
      let k : Kept post old s f.0 = f.1 in
      pushed starts f.0 new f.2
      ∙ ap (λ (l : List ℕ). l ++ starts)
      (ap (λ (v : ArrayVec ℕ). v.items) (sym k.leaves) ∙ each k.shown s k.left k.called ∙ ap (λ (v : ArrayVec ℕ). v.items ++ (s ∷ [])) k.shows)
      ∙ append_assoc old.items (s ∷ []) starts

  -- what a walk that pushed each start comes to
  pub all_pushed : (old : ArrayVec ℕ) → old.items ≡ [] → (w : Walked) (r : Result (ArrayVec ℕ) Damage) → Walks post old w r → r ≡ places_of w
  all_pushed old e (complete starts) r h =
      h.2 ∙ ap (λ (l : List ℕ). Ok (record { items = l })) (pushed starts old h.0 h.1 ∙ ap (λ (l : List ℕ). l ++ starts) e)
  all_pushed old e (stopped f p) r h = h
