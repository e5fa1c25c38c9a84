-- A loop that lays bytes into an area one part behind the other: what is laid in so far and what is left. Assumes nothing.
use Prim.Native.Nat.{ℕ, ◌+◌, ◌≤◌, ◌<◌}
use mathlib.Core.Path.{◌≡◌, refl, sym, ap, ◌∙◌}
use mathlib.Core.List.{List, [], ◌∷◌, ◌++◌, map}
use native.Mathlib.Omega.{arith}
use lib.ListN.{length, length-append}
use Rattle.model.specs.Tests.{joined}
use Rattle.file_writer.specs.Pasting.{pasted, Laid}
use Rattle.file_writer.proofs.Pastes.{pasted-none, pasted_length, pasted_twice}
use Rattle.file_writer.proofs.Lists.{left_of, left_first}

-- with the rest laid in at p the area is what it would be with all laid in at `at`
pub record Rest (out₀ : List ℕ) (at : ℕ) (all out : List ℕ) (p : ℕ) (rest : List ℕ) : Type 0 where
  pub area : pasted out p rest ≡ pasted out₀ at all
  pub next : p + length rest ≡ at + length all
  pub long : length out ≡ length out₀
  pub room : at + length all ≤ length out₀

pub rest_start : (out : List ℕ) (at : ℕ) (all : List ℕ) → at + length all ≤ length out → Rest out at all out at all
rest_start out at all h = record { area = refl; next = refl; long = refl; room = h }

module _ {out₀ : List ℕ} {at : ℕ} {all out : List ℕ} {p : ℕ} where
  -- there is room for the next part
  pub rest_room : {rest : List ℕ} → Rest out₀ at all out p rest → (a more : List ℕ) → rest ≡ a ++ more → p + length a ≤ length out
  rest_room v a more e = omega (arith, v.next, v.long, v.room, ap length e, length-append a more)

  -- the next part is laid in
  pub rest_more : {rest : List ℕ} → Rest out₀ at all out p rest → (a more : List ℕ) → rest ≡ a ++ more
      → {out' : List ℕ} {p' : ℕ} → Laid out p a out' p' → Rest out₀ at all out' p' more
  rest_more v a more e {out'} {p'} l =
      let room = rest_room v a more e in
      record {
        area = ap (λ o. pasted o p' more) l.area ∙ ap (λ k. pasted (pasted out p a) k more) l.next
            ∙ pasted_twice out p a more (omega arith) ∙ ap (pasted out p) (sym e) ∙ v.area;
        next = omega (arith, l.next, v.next, ap length e, length-append a more);
        long = ap length l.area ∙ pasted_length out p a room ∙ v.long;
        room = v.room;
      }

  pub rest_end : {rest : List ℕ} → Rest out₀ at all out p rest → rest ≡ [] → Laid out₀ at all out p
  rest_end v e = record {
    area = sym (pasted-none out p) ∙ ap (pasted out p) (sym e) ∙ v.area;
    next = omega (arith, v.next, ap length e);
  }

-- ---- the parts are f 0, f 1, .. : n of them

module _ {out₀ : List ℕ} {at : ℕ} {all out : List ℕ} {p : ℕ} (n : ℕ) (f : ℕ → List ℕ) (j : ℕ) (v : Rest out₀ at all out p (left_of n f j)) where
  pub part_room : j < n → p + length (f j) ≤ length out
  part_room h = rest_room v (f j) (left_of n f (j + 1)) (left_first n f j h)

  pub part_more : j < n → {out' : List ℕ} {p' : ℕ} → Laid out p (f j) out' p' → Rest out₀ at all out' p' (left_of n f (j + 1))
  part_more h l = rest_more v (f j) (left_of n f (j + 1)) (left_first n f j h) l

-- ---- the parts are those of the items of a list: xs are left

module _ {A : Type 0} (f : A → List ℕ) where
  next_first : {xs more : List A} {x : A} → xs ≡ x ∷ more → joined (map f xs) ≡ f x ++ joined (map f more)
  unfolding joined
  next_first e = ap (λ l. joined (map f l)) e

  pub none_left : {xs : List A} → xs ≡ [] → joined (map f xs) ≡ []
  unfolding joined
  none_left e = ap (λ l. joined (map f l)) e

  module _ {out₀ : List ℕ} {at : ℕ} {all out : List ℕ} {p : ℕ} {xs : List A} (v : Rest out₀ at all out p (joined (map f xs))) where
    pub item_room : {x : A} {more : List A} → xs ≡ x ∷ more → p + length (f x) ≤ length out
    item_room e = rest_room v _ _ (next_first e)

    pub item_more : {x : A} {more : List A} → xs ≡ x ∷ more → {out' : List ℕ} {p' : ℕ} → Laid out p (f x) out' p' → Rest out₀ at all out' p' (joined (map f more))
    item_more e l = rest_more v _ _ (next_first e) l

    pub items_end : xs ≡ [] → Laid out₀ at all out p
    items_end e = rest_end v (none_left e)
