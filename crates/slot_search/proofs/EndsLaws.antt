-- A budget's cut goes through the definition piece by piece. Assumes nothing.
use mathlib.Core.Path.{◌≡◌, refl, sym, ap, ap₂, ◌∙◌, subst}
use mathlib.Core.Bool.{Bool, true, false, cond}
use mathlib.Core.List.{List, map}
use Prim.Native.Nat.{ℕ, ◌+◌, ◌-◌, ◌≤◌, ◌<◌}
use native.Mathlib.Nat.{sub-zero}
use native.Mathlib.Omega.{arith}
use lib.ListN.{take}
use lib.Dec.{leb, leb-zero}
use borrow.Author.Tests.{le-leb, lt-leb, leb-true, leb-false}
use Rattle.model.specs.Search.{Walk, found, no_room, later, choice, then_try}
use Rattle.num_mask.specs.Bits.{offsets}
use Rattle.std.specs.Result.{IsErr}
use Rattle.std.specs.declared.result.Result.TheVariants.{Ok, Err}
use Rattle.slot_search.specs.Code.{Walked, over, cut, assigned, WalkEnds}
use Rattle.slot_search.specs.declared.Outcome.TheVariants.{Found, NoRoom}

-- ---- a walk with n visits in front

leb-later : (n v l : ℕ) → n ≤ l → leb (n + v) l ≡ leb v (l - n)
leb-later n v l h = go (leb v (l - n)) refl
  where
    go : (t : Bool) → leb v (l - n) ≡ t → leb (n + v) l ≡ leb v (l - n)
    go true e = let k = leb-true v (l - n) e in le-leb (n + v) l (omega arith) ∙ sym e
    go false e = let k = leb-false v (l - n) e in lt-leb (n + v) l (omega arith) ∙ sym e

cut_later : (n l : ℕ) (w : Walk) → n ≤ l → cut l (later n w) ≡ cut (l - n) w
unfolding cut later
cut_later n l (found v os) h = ap₂ (λ (b : Bool) (x : ℕ). cond b (Ok (Found x)) over) (leb-later n v l h) (omega arith)
cut_later n l (no_room v) h = ap₂ (λ (b : Bool) (x : ℕ). cond b (Ok (NoRoom x)) over) (leb-later n v l h) (omega arith)

cut-over : (n l : ℕ) (w : Walk) → l < n → cut l (later n w) ≡ over
unfolding cut later
cut-over n l (found v os) h = rw (lt-leb (n + v) l (omega arith))
cut-over n l (no_room v) h = rw (lt-leb (n + v) l (omega arith))

assigned-later : (n : ℕ) (w : Walk) → assigned (later n w) ≡ assigned w
unfolding later assigned
assigned-later n (found v os) = refl
assigned-later n (no_room v) = refl

-- a result that is an error
pub is_over : {r : Walked} → IsErr r → r ≡ over
is_over {r = Ok x} h = cc
is_over {r = Err e} h = refl

-- ---- what the first choice came to says which of the two counts

first_found : (l k : ℕ) (w w' : Walk) → Ok (Found k) ≡ cut l w → then_try w w' ≡ w
unfolding cut then_try
first_found l k (found v os) w' e = refl
first_found l k (no_room v) w' e = go (leb v l) e
  where
    go : (b : Bool) → Ok (Found k) ≡ cond b (Ok (NoRoom (l - v))) over → later v w' ≡ no_room v
    go true p = cc
    go false p = cc

first-over : (l : ℕ) (w w' : Walk) → over ≡ cut l w → cut l (then_try w w') ≡ over
unfolding cut then_try
first-over l (found v os) w' e = sym e
first-over l (no_room v) w' e = go (leb v l) refl e
  where
    go : (b : Bool) → leb v l ≡ b → over ≡ cond b (Ok (NoRoom (l - v))) over → cut l (later v w') ≡ over
    go true q p = cc
    go false q p = cut-over v l w' (leb-false v l q)

first-none : (l k : ℕ) (w w' : Walk) → Ok (NoRoom k) ≡ cut l w → (cut l (then_try w w') ≡ cut k w') × (assigned (then_try w w') ≡ assigned w')
unfolding cut then_try
first-none l k (found v os) w' e = go (leb v l) e
  where
    go : (b : Bool) → Ok (NoRoom k) ≡ cond b (Ok (Found (l - v))) over → (cut l (found v os) ≡ cut k w') × (assigned (found v os) ≡ assigned w')
    go true p = (cc, cc)
    go false p = (cc, cc)
first-none l k (no_room v) w' e = (go (leb v l) refl e, assigned-later v w')
  where
    go : (b : Bool) → leb v l ≡ b → Ok (NoRoom k) ≡ cond b (Ok (NoRoom (l - v))) over → cut l (later v w') ≡ cut k w'
    go true q p =
        let same : l - v ≡ k = cc in
        cut_later v l w' (leb-true v l q) ∙ ap (λ (x : ℕ). cut x w') same
    go false q p = cc

-- ---- how a walk ends, from how its parts end

module _ {n c : ℕ} {old : List ℕ} where
  pub ends_same : {w w' : Walk} {l : ℕ} {new : List ℕ} {r : Walked} → w ≡ w' → WalkEnds w n c l old new r → WalkEnds w' n c l old new r
  ends_same {w} {w'} {l} {new} {r} e h = subst (λ (x : Walk). WalkEnds x n c l old new r) e h

  -- an allowed choice, with a visit to spare and with none; a choice that is not allowed
  pub ends_visit : {w : Walk} {new : List ℕ} {r : Walked} {k l : ℕ} → k + 1 ≡ l → WalkEnds w n c k old new r → WalkEnds (choice true w) n c l old new r
  unfolding choice
  ends_visit {w} {k = k} {l} p h = record {
    answer = h.answer ∙ ap (λ (x : ℕ). cut x w) (omega arith) ∙ sym (cut_later 1 l w (omega arith));
    kept = h.kept;
    holds = λ k e. h.holds k e ∙ sym (assigned-later 1 w);
  }

  pub ends_broke : (w : Walk) (l : ℕ) → l ≡ 0 → WalkEnds (choice true w) n c l old old over
  unfolding choice
  ends_broke w l p = record { answer = sym (cut-over 1 l w (omega arith)); kept = refl; holds = λ k e. cc }

  pub ends_shut : (w : Walk) (l : ℕ) → WalkEnds (choice false w) n c l old old (Ok (NoRoom l))
  unfolding choice cut
  ends_shut w l = record { answer = rw (leb-zero l, sub-zero l); kept = refl; holds = λ k e. cc }

  -- two choices
  ends_first : {w : Walk} {l : ℕ} {new : List ℕ} {k : ℕ} (w' : Walk) → WalkEnds w n c l old new (Ok (Found k)) → WalkEnds (then_try w w') n c l old new (Ok (Found k))
  ends_first {w} {l} {new} {k} w' h = ends_same (sym (first_found l k w w' h.answer)) h

  pub ends_over : {w : Walk} {l : ℕ} {new : List ℕ} (w' : Walk) → WalkEnds w n c l old new over → WalkEnds (then_try w w') n c l old new over
  ends_over {w} {l} w' h = record { answer = sym (first-over l w w' h.answer); kept = h.kept; holds = λ k e. cc }

  -- the first came to an answer or the budget is spent
  pub ends_answered : {w : Walk} {l : ℕ} {new : List ℕ} (w' : Walk) (r : Walked) → ((k : ℕ) → r ≡ Ok (NoRoom k) → ⊥)
      → WalkEnds w n c l old new r → WalkEnds (then_try w w') n c l old new r
  ends_answered w' (Ok (Found k)) other h = ends_first w' h
  ends_answered w' (Ok (NoRoom k)) other h = absurd (other k refl)
  ends_answered w' (Err e) other h = ends_over w' h

  pub ends_second : {w w' : Walk} {l k : ℕ} {mid new : List ℕ} {r : Walked}
      → WalkEnds w n c l old mid (Ok (NoRoom k)) → WalkEnds w' n c k mid new r → WalkEnds (then_try w w') n c l old new r
  ends_second {w} {w'} {l} {k} h g =
      let p = first-none l k w w' h.answer in
      record {
        answer = g.answer ∙ sym p.0;
        kept = g.kept ∙ h.kept;
        holds = λ x e. g.holds x e ∙ sym p.1;
      }

  -- nothing is left to walk
  pub ends_found : (l : ℕ) → c ≡ n → WalkEnds (found 0 (map offsets (take c old))) n c l old old (Ok (Found l))
  unfolding cut assigned
  ends_found l p = record {
    answer = rw (leb-zero l, sub-zero l);
    kept = refl;
    holds = λ k e. ap (λ (m : ℕ). map offsets (take m old)) (sym p);
  }
