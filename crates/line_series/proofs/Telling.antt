-- Laws behind `judge`: what is told of what a series has met, and that the lines that it meets are there. Assumes nothing.
use Rattle.std.proofs.Common.{◌≡◌, ◌≢◌, ℕ, suc, ◌<◌, Bool, true, false, cond, List, [], ◌∷◌, Some, None, refl, sym, ap, ◌∙◌, arith}
use Rattle.std.specs.List.{All, find}
use borrow.Author.Tests.{eq-eqb, ne_eqb}
use mathlib.Core.Option.{none, some}
use Rattle.model.specs.Tests.{neg, given}
use Rattle.model.specs.declared.Answer.TheVariants.{Unserved, Partly, Twice, Astray}
use Rattle.line_chains.specs.Chains.{line_in, has, lines_at}
use Rattle.line_chains.proofs.Numbers.{each_passes}
use Rattle.line_series.specs.Judging.{second, meets, serves_part, met_of, told, fault_at}
use Rattle.line_series.specs.declared.Met.{Met}

-- ---- what holds of all of a list

module _ (P : ℕ → Type 0) (p : ℕ → Bool) where
  All-tail : (y : ℕ) (ys : List ℕ) → All P (y ∷ ys) → All P ys
  All-tail y ys a k d h = a (suc k) d (omega arith)

  pub of_find : (xs : List ℕ) → All P xs → {x : ℕ} → find p xs ≡ Some x → P x
  of_find [] a e = absurd (cc e)
  of_find (y ∷ ys) a {x} e = pick (p y) e (of_find ys (All-tail y ys a))
    where
      pick : (b : Bool) → cond b (Some y) (find p ys) ≡ Some x → (find p ys ≡ Some x → P x) → P x
      pick true f more = let s : x ≡ y = cc f in rw s (a 0 0 (omega arith))
      pick false f more = more f

  pub of_second : (xs : List ℕ) → All P xs → {x : ℕ} → second p xs ≡ Some x → P x
  of_second [] a e = absurd (cc e)
  of_second (y ∷ ys) a {x} e = pick (p y) e (of_second ys (All-tail y ys a))
    where
      pick : (b : Bool) → cond b (find p ys) (second p ys) ≡ Some x → (second p ys ≡ Some x → P x) → P x
      pick true f more = of_find ys (All-tail y ys a) f
      pick false f more = more f

-- ---- met is what the slots of a series have met

module _ (t : List ℕ) (lines port cycle start : ℕ) (met : Met) (is : met ≡ met_of t cycle start (lines_at t lines port)) where
  abbrev low : All (λ m. m < lines) (lines_at t lines port)
  low k d h = (each_passes (has t port) lines k d h).0

  pub one_low : {m : ℕ} → met.one ≡ Some m → m < lines
  one_low e = of_find (λ m. m < lines) (meets t cycle start) _ low (sym (ap (λ (x : Met). x.one) is) ∙ e)

  pub part_low : {m : ℕ} → met.part ≡ Some m → m < lines
  part_low e = of_find (λ m. m < lines) (serves_part t cycle start) _ low (sym (ap (λ (x : Met). x.part) is) ∙ e)

  pub two_low : {m : ℕ} → met.two ≡ Some m → m < lines
  two_low e = of_second (λ m. m < lines) (meets t cycle start) _ low (sym (ap (λ (x : Met). x.two) is) ∙ e)

  module _ (out c a j : ℕ) where
    told_is : told (λ m. (line_in t m).out) out c a j met.one met.part met.two ≡ fault_at t lines port cycle start out c a j
    unfolding fault_at
    told_is = rw is refl

    pub tells_none : met.one ≡ None → some (Unserved c a j) ≡ fault_at t lines port cycle start out c a j
    tells_none e = (rw e refl) ∙ told_is

    module _ {m : ℕ} (one : met.one ≡ Some m) where
      pub tells_part : {k : ℕ} → met.part ≡ Some k → some (Partly c a j k) ≡ fault_at t lines port cycle start out c a j
      tells_part e = (rw (one, e) refl) ∙ told_is

      module _ (whole : met.part ≡ None) where
        pub tells_twice : {k : ℕ} → met.two ≡ Some k → some (Twice c a j k) ≡ fault_at t lines port cycle start out c a j
        tells_twice e = (rw (one, whole, e) refl) ∙ told_is

        module _ (once : met.two ≡ None) where
          pub tells_stray : (line_in t m).out ≢ out → some (Astray c a j m) ≡ fault_at t lines port cycle start out c a j
          unfolding given neg
          tells_stray h = (rw (one, whole, once, ne_eqb _ out h) refl) ∙ told_is

          pub tells_nothing : (line_in t m).out ≡ out → none ≡ fault_at t lines port cycle start out c a j
          unfolding given neg
          tells_nothing h = (rw (one, whole, once, eq-eqb _ out h) refl) ∙ told_is
