-- The first that is found of f 0, f 1, .. below n, as `(0..n).try_for_each(|i| ..)` looks for it. Assumes nothing.
use Prim.Native.Nat.{ℕ}
use mathlib.Core.Path.{◌≡◌, refl, sym, ap, ◌∙◌, subst}
use mathlib.Core.List.{List, [], ◌∷◌}
use mathlib.Core.Option.{Option}
use native.Mathlib.Omega.{arith}
use denote.Param.Members.{Mut, Called}
use Rattle.std.specs.Iterator.{Yields, TryForEachTurn, TryCallsOnEach}
use Rattle.std.specs.List.{FoldsTo}
use Rattle.std.specs.Option.{MatchOption}
use Rattle.std.specs.Result.{IsErr, IsErrAnd}
use Rattle.std.specs.declared.option.Option.{Option as StdOption}
use Rattle.std.specs.declared.option.Option.TheVariants.{Some, None}
use Rattle.std.specs.declared.result.Result.TheVariants.{Ok, Err}
use Rattle.std.specs.declared.ops.Range.{Range}
use Rattle.std.specs.declared.ops.ControlFlow.{ControlFlow}
use Rattle.std.specs.declared.ops.ControlFlow.TheVariants.{Continue, Break}
use Rattle.std.proofs.iter.Yields.{nat_range_steps}
use Rattle.model.specs.Tests.{first}
use Rattle.model.specs.declared.Answer.{Answer}
use Rattle.plan_refusal.specs.Found.{Tested, found}
use Rattle.plan_refusal.proofs.Firsts.{handed_on, Clear, clear_none, clear_more, clear_found, clear_all, found-none}

-- how far the calls of `test` have come, all of which found nothing
record Reached {F : Type 0} (f : ℕ → Option Answer) (test : F) (n : ℕ) (s : Range ℕ) (p : F) : Type 0 where
  pub here : p ≡ test
  pub end : s.end ≡ n
  pub clear : Clear f s.start

-- `result` is the test's result by what `?` makes of it, and `told` what a refusal of it tells
module _ {F E : Type 0} (result : ControlFlow E (Unit {0}) → Tested) (told : E → Answer) (g : Mut F (ℕ × Unit {0}) Tested) where
  abbrev Branches : Tested → ControlFlow E (Unit {0}) → Type 0
  Branches v b = v ≡ result b

  abbrev HandsOn : E → Tested → Type 0
  HandsOn e r = IsErr r × IsErrAnd r (λ a. a ≡ told e)

  module _ (goes_on : result (Continue tt) ≡ Ok tt) (stops : (e : E) → result (Break e) ≡ Err (told e)) (f : ℕ → Option Answer) (test : F)
      (each : (x : ℕ) (r : Tested) (q : F) → Called g test (x, tt) r q → (q ≡ test) × (found r ≡ f x)) where
    one : (p : F) → p ≡ test → (x : ℕ) (r : Tested) (q : F) → Called g p (x, tt) r q → (q ≡ test) × (found r ≡ f x)
    one p e x r q c = each x r q (subst (λ (k : F). Called g k (x, tt) r q) e c)

    calls : (n : ℕ) (xs : List ℕ) (s t : Range ℕ) (p q : F) → Reached f test n s p → Yields nat_range_steps s xs t → FoldsTo (TryForEachTurn g Branches) p xs q → Reached f test n t q
    calls n [] s t p q r y c = record {
      here = sym c ∙ r.here;
      end = ap (λ (u : Range ℕ). u.end) (sym y) ∙ r.end;
      clear = subst (λ (u : Range ℕ). Clear f u.start) y r.clear;
    }
    calls n (x ∷ xs) s t p q r y c =
        let a = one p r.here x c.1.0 c.0 c.1.1 in
        let at : x ≡ s.start = y.1.1.1 in
        calls n xs y.0 t c.0 q
        (record {
          here = a.0;
          end = y.1.0 ∙ r.end;
          clear = subst (λ (k : ℕ). Clear f k) (sym y.1.1.2) (clear_more f s.start r.clear c.1.0 (a.1 ∙ ap f at) (c.1.2 ∙ goes_on));
        })
        y.2 c.2

    -- r is what `try_for_each` returned
    pub first_in_range : (n : ℕ) (u : Range ℕ) (r : Tested)
        → TryCallsOnEach nat_range_steps g Branches HandsOn (record { start = 0; end = n }) test r u → found r ≡ first n f
    first_in_range n u r ran = ends ran.1 ran.3.2 ran.5
      where
        reached : Reached f test n ran.3.0 ran.2
        reached = calls n ran.0 (record { start = 0; end = n }) ran.3.0 test ran.2 (record { here = refl; end = refl; clear = clear_none f }) ran.3.1 ran.4

        ends : (o : StdOption ℕ) → nat_range_steps ran.3.0 o u
            → MatchOption o (Branches r (Continue tt)) (λ x. (v : Tested) × (h : F) × (e : E) × Called g ran.2 (x, tt) v h × Branches v (Break e) × HandsOn e r)
            → found r ≡ first n f
        ends None s m = found-none r (m ∙ goes_on) ∙ clear_all f n ran.3.0.start (omega (arith, reached.end, s.1.0)) reached.clear
        ends (Some x) s m =
            let a = one ran.2 reached.here x m.0 m.1 m.3 in
            handed_on r (told m.2) m.5.1
            ∙ clear_found f ran.3.0.start reached.clear m.0 (a.1 ∙ ap f s.1.1) n (omega (arith, reached.end, s.1.0)) (told m.2) (m.4 ∙ stops m.2)
