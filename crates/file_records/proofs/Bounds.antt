-- The steps over the records of a file stay within it, for those who call `places` and `count`. Assumes nothing.
use Prim.Native.Nat.{ℕ, ◌+◌, ◌≤◌, ◌<◌}
use mathlib.Core.Path.{◌≡◌, sym}
use mathlib.Core.Bool.{Bool}
use mathlib.Core.List.{List}
use native.Mathlib.Omega.{arith}
use lib.ListN.{length}
use Rattle.model.specs.Sizes.{head_size}
use Rattle.model.specs.Bytes.{length_at}
use Rattle.model.specs.Reading.{Verdict, Step, faultless, next_at, have}
use Rattle.model.proofs.Records.{Passes, step_says, step_in}
use Rattle.file_records.specs.Walks.{Walkable, Tells}

-- each record that a step passes is one of at most `most`, and ends inside a file of so many bytes
pub record Bounded (most : ℕ) (step : ℕ → ℕ → Step) (size : ℕ) : Type 0 where
  pub few : (n p next : ℕ) → step n p ≡ next_at next → n < most
  pub inside : (n p next : ℕ) → step n p ≡ next_at next → next ≤ size

-- as they are where each verdict tests so
pub bounded_by : (most kind : ℕ) (early : ℕ → Bool) (verdict : ℕ → ℕ → Verdict) (s : List ℕ)
    → ((n p : ℕ) → verdict n p ≡ faultless → (n < most) × (head_size + length_at s p ≤ have s p)) → Bounded most (step_in kind early verdict s) (length s)
bounded_by most kind early verdict s tested = record {
  few = λ n p next e. (tested n p (passes n p next e).fine).0;
  inside = λ n p next e. let ok = passes n p next e in omega (arith, ok.next_is, (tested n p ok.fine).1);
}
  where
    passes : (n p next : ℕ) → step_in kind early verdict s n p ≡ next_at next → Passes kind (verdict n p) s p next
    passes n p next e = step_says kind (early n) (verdict n p) s p (next_at next) e

-- what `places` and `count` ask of a step that answers what `said` does and may be called anywhere in a file of so many bytes
pub walkable : (pre : ℕ → ℕ → Type 0) (post : ℕ → ℕ → Step → Type 0) (first most size : ℕ) (said : ℕ → ℕ → Step)
    → Bounded most said size → first ≤ size → ((n p : ℕ) → p ≤ size → pre n p) → Tells post said → Walkable pre post first most
walkable pre post first most size said b h callable t = record {
  size = size;
  begins = h;
  callable = λ n p _ l. callable n p l;
  few = λ n p next _ _ k. b.few n p next (sym (t.is n p (next_at next) k));
  inside = λ n p next _ _ k. b.inside n p next (sym (t.is n p (next_at next) k));
}
