-- From a walk's outcome under a budget to the reply. Assumes nothing.
use mathlib.Core.Path.{◌≡◌, refl, sym, ap, ◌∙◌, subst}
use mathlib.Core.Bool.{Bool, true, false, cond}
use mathlib.Core.List.{List, []}
use Prim.Native.Nat.{ℕ, ◌-◌, ◌≤◌, zero-le}
use native.Mathlib.Omega.{arith}
use lib.Dec.{leb}
use borrow.Author.Tests.{leb-true}
use Rattle.model.specs.Search.{Walk, found, no_room, search, Reply, slots, full, unfinished, reply}
use Rattle.plan.specs.Plan.{circuits_in}
use Rattle.slot_grid.specs.Table.{clash_in}
use Rattle.std.specs.declared.result.Result.TheVariants.{Ok, Err}
use Rattle.arrayvec.specs.ArrayVec.{ArrayVec}
use Rattle.plan.specs.declared.Circuit.{Circuit}
use Rattle.slot_search.specs.Code.{Walked, over, circuits, from_circuit, cut, assigned, WalkEnds, CircuitEnds, Replies}
use Rattle.slot_search.specs.declared.Outcome.TheVariants.{Found, NoRoom}

-- ---- an outcome under the budget l, as the definition's reply and as the code's

abbrev told : (l : ℕ) → List (List ℕ) → Walked → Reply
told l os (Ok (Found k)) = slots (l - k) os
told l os (Ok (NoRoom k)) = full (l - k)
told l os (Err e) = unfinished

abbrev pub allotted : (l : ℕ) → Walked → Walked
allotted l (Ok (Found k)) = Ok (Found (l - k))
allotted l (Ok (NoRoom k)) = Ok (NoRoom (l - k))
allotted l (Err e) = over

-- what is left of the budget
abbrev pub rest : Walked → ℕ
rest (Ok (Found k)) = k
rest (Ok (NoRoom k)) = k
rest (Err e) = 0

-- ---- what a cut says

reply-cut : (l : ℕ) (w : Walk) → reply l w ≡ told l (assigned w) (cut l w)
unfolding cut assigned reply
reply-cut l (found v os) = go (leb v l) refl
  where
    go : (b : Bool) → leb v l ≡ b → cond b (slots v os) unfinished ≡ told l os (cond b (Ok (Found (l - v))) over)
    go true q = let h = leb-true v l q in ap (λ (x : ℕ). slots x os) (omega arith)
    go false q = refl
reply-cut l (no_room v) = go (leb v l) refl
  where
    go : (b : Bool) → leb v l ≡ b → cond b (full v) unfinished ≡ told l [] (cond b (Ok (NoRoom (l - v))) over)
    go true q = let h = leb-true v l q in ap full (omega arith)
    go false q = refl

rest_cut : (l : ℕ) (w : Walk) → rest (cut l w) ≤ l
unfolding cut
rest_cut l (found v os) = go (leb v l)
  where
    go : (b : Bool) → rest (cond b (Ok (Found (l - v))) over) ≤ l
    go true = omega arith
    go false = zero-le
rest_cut l (no_room v) = go (leb v l)
  where
    go : (b : Bool) → rest (cond b (Ok (NoRoom (l - v))) over) ≤ l
    go true = omega arith
    go false = zero-le

-- ---- the whole walk came to r, as o has it

pub rest_le : {w : Walk} {n l : ℕ} {old new : List ℕ} {r o : Walked} → r ≡ o → WalkEnds w n 0 l old new r → rest o ≤ l
rest_le {w} {l} e h = rw (sym e ∙ h.answer) (rest_cut l w)

reply-told : {w : Walk} {n l : ℕ} {old new : List ℕ} (o : Walked) → WalkEnds w n 0 l old new o → Replies (told l (assigned w) o) n new (allotted l o)
reply-told (Ok (Found k)) h = let m = h.holds k refl in record { to_slots = λ v os e. (cc, cc); to_full = λ v e. cc; to_unfinished = λ e. cc }
reply-told (Ok (NoRoom k)) h = record { to_slots = λ v os e. (cc, cc); to_full = λ v e. cc; to_unfinished = λ e. cc }
reply-told (Err e) h = record { to_slots = λ v os e. (cc, cc); to_full = λ v e. cc; to_unfinished = λ e. refl }

pub replied : (grid : List (List (List ℕ))) (p : ArrayVec Circuit) {l : ℕ} {old new : List ℕ} {r o : Walked} → r ≡ o
    → CircuitEnds grid p 0 l old new r
    → Replies (reply l (search (clash_in grid) (circuits p) [])) (circuits_in p) new (allotted l o)
unfolding from_circuit
replied grid p {l} {old} {new} {r} {o} e h =
    let n = circuits_in p in
    let w = search (clash_in grid) (circuits p) [] in
    let g : WalkEnds w n 0 l old new o = subst (λ (x : Walked). WalkEnds w n 0 l old new x) e h in
    rw (reply-cut l w, ← g.answer) (reply-told o g)
