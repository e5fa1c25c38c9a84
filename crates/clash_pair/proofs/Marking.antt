-- Uses one by one: which differences a loop over them has marked. Assumes nothing.
use Prim.Native.Nat.{ℕ, zero, suc, ◌+◌, ◌<◌}
use mathlib.Core.Path.{◌≡◌, refl, sym, ap, ◌∙◌}
use mathlib.Core.Bool.{Bool, false, ◌||◌, or_assoc, or-false}
use mathlib.Core.List.{List, [], ◌∷◌}
use native.Mathlib.Numerals.{add-one}
use native.Mathlib.Omega.{arith}
use borrow.Author.Tests.{eq-eqb, ne_eqb}
use lib.ListN.{length, take, get_or}
use lib.Dec.{eqb}
use Rattle.model.specs.Tests.{◌and◌, any}
use Rattle.model.specs.declared.Use.{Use}
use Rattle.model.specs.Holding.{meet?}
use Rattle.num_mask.specs.Bits.{bit, Marked}
use Rattle.num_mask.proofs.Laws.{bit-none}
use Rattle.num_cyclic.specs.Ahead.{ahead}
use Rattle.num_cyclic.proofs.Ahead.{ahead_only}
use Rattle.clash_pair.specs.Differences.{Marks, MarksUse, meets_any, any_meets, Bad}

-- ---- one element more

any_more : {A : Type 0} (p : A → Bool) (xs : List A) (i : ℕ) (d : A) → i < length xs → any p (take (i + 1) xs) ≡ (any p (take i xs) || p (get_or xs i d))
unfolding any
any_more {A} p xs i d h = ap (λ k. any p (take k xs)) (add-one i) ∙ go xs i h
  where
    go : (xs : List A) (i : ℕ) → i < length xs → any p (take (suc i) xs) ≡ (any p (take i xs) || p (get_or xs i d))
    go [] i h = absurd (omega arith)
    go (x ∷ xs) zero h = or-false (p x)
    go (x ∷ xs) (suc i) h = ap (λ b. p x || b) (go xs i (omega arith)) ∙ sym (or_assoc (p x) (any p (take i xs)) (p (get_or xs i d)))

-- ---- which differences are marked

marks_none : {m g : ℕ} → Marks m m g (λ d. false)
marks_none {m} = record { bits = λ d h. sym (or-false (bit m d)) }

marks_more : {m a b g : ℕ} {p s : ℕ → Bool} (t : ℕ → Bool) → Marks m a g p → Marks a b g s → ((d : ℕ) → d < g → t d ≡ (p d || s d)) → Marks m b g t
marks_more {m} {p = p} {s = s} t x y e = record {
  bits = λ d h.
      y.bits d h ∙ ap (λ z. z || s d) (x.bits d h) ∙ or_assoc (bit m d) (p d) (s d) ∙ ap (λ z. bit m d || z) (sym (e d h));
}

-- the difference at which two uses of one resource meet, and two of different ones never
meet_same : (g d : ℕ) (u v : Use) → d < g → v.what ≡ u.what → meet? g d u 0 v ≡ eqb d (ahead g v.after u.after)
unfolding meet? ◌and◌
meet_same g d u v h e = rw (eq-eqb u.what v.what (sym e)) (ahead_only g d u.after v.after h)

meet_other : (g d : ℕ) (u v : Use) → (v.what ≡ u.what → ⊥) → meet? g d u 0 v ≡ false
unfolding meet? ◌and◌
meet_other g d u v ne = rw (ne_eqb u.what v.what (λ e. ne (sym e))) refl

-- ---- one use against the uses of a circuit

pub uses_none : {u : Use} {g from : ℕ} → MarksUse u [] g from from
unfolding meets_any any
uses_none = record { marks = marks_none }

module _ (u : Use) (xs : List Use) (g from : ℕ) {i acc : ℕ} (h : i < length xs) (done : MarksUse u (take i xs) g from acc) where
  abbrev v : Use
  v = get_or xs i (record { what = 0; after = 0 })

  more : {r : ℕ} → Marks acc r g (λ d. meet? g d u 0 v) → MarksUse u (take (i + 1) xs) g from r
  unfolding meets_any
  more m = record { marks = marks_more _ done.marks m (λ d k. any_more (meet? g d u 0) xs i _ h) }

  -- one of another resource
  pub uses_other : (v.what ≡ u.what → ⊥) → MarksUse u (take (i + 1) xs) g from acc
  uses_other ne = more (record { bits = λ d k. sym (ap (λ z. bit acc d || z) (meet_other g d u v ne) ∙ or-false (bit acc d)) })

  -- one of the same
  pub uses_same : {d r : ℕ} → d ≡ ahead g v.after u.after → v.what ≡ u.what → Marked acc d r → MarksUse u (take (i + 1) xs) g from r
  uses_same {d} is-d same m =
      more (record { bits = λ e k. m.bits e ∙ ap (λ z. bit acc e || z) (ap (eqb e) is-d ∙ sym (meet_same g e u v k same)) })

-- ---- the same for all uses of a circuit

pub record MarksAll (xs ys : List Use) (g acc : ℕ) : Type 0 where
  pub marks : Marks 0 acc g (any_meets g xs ys)

pub all_none : {ys : List Use} {g : ℕ} → MarksAll [] ys g 0
unfolding any_meets any
all_none = record { marks = marks_none }

module _ (xs ys : List Use) (g : ℕ) where
  pub all_more : {k acc r : ℕ} → k < length xs → MarksAll (take k xs) ys g acc → MarksUse (get_or xs k (record { what = 0; after = 0 })) ys g acc r → MarksAll (take (k + 1) xs) ys g r
  unfolding any_meets
  all_more {k} h done m = record { marks = marks_more _ done.marks m.marks (λ d l. any_more (λ v. meets_any g v ys d) xs k _ h) }

  pub all_done : {acc : ℕ} → MarksAll xs ys g acc → Bad g xs ys acc
  all_done {acc} m = record { bits = λ d h. m.marks.bits d h ∙ ap (λ z. z || any_meets g xs ys d) (bit-none d) }
