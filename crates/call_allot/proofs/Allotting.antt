-- What allocation comes to, one law for each way out of it. Assumes nothing.
use Prim.Native.Nat.{ℕ, ◌≤◌, ◌<◌}
use mathlib.Core.Path.{◌≡◌, refl, sym, ap, ◌∙◌}
use mathlib.Core.List.{List, [], map}
use native.Mathlib.Omega.{arith}
use borrow.Author.Tests.{lt-ltb}
use lib.ListN.{length, take}
use Rattle.model.specs.Sizes.{detail_end}
use Rattle.model.specs.Tests.{given, ◌else◌}
use Rattle.model.specs.Network.{Request}
use Rattle.model.specs.Search.{Reply, slots, full, unfinished, reply, whole}
use Rattle.model.specs.Reading.{request}
use Rattle.model.specs.Jobs.{allot, allocate, settled, assignment_size, assignment_bytes}
use Rattle.model.specs.declared.Answer.TheVariants.{Allocated, NoRoom, Unfinished, Short}
use Rattle.model.proofs.Searching.{given_fits, reply_slots}
use Rattle.model.proofs.Writes.{assignment-length}
use Rattle.model.proofs.Files.{short_none}
use Rattle.model.proofs.Details.{details_fit}
use Rattle.num_mask.specs.Bits.{offsets}
use Rattle.slot_search.specs.Code.{Walked, over, Replies}
use Rattle.slot_search.specs.declared.Outcome.TheVariants.{Found, NoRoom as NoRoomLeft}
use Rattle.std.specs.declared.result.Result.TheVariants.{Ok}
use Rattle.arrayvec.specs.ArrayVec.{ArrayVec}
use Rattle.plan.specs.declared.Circuit.{Circuit}
use Rattle.plan.specs.Plan.{circuits_in, Stands}
use Rattle.slot_allot.specs.Slots.{SizeFor, SlotsFor}
use Rattle.file_writer.specs.Files.{Wrote}
use Rattle.call_allot.specs.Allot.{Loaded, allotting, Allots}

-- ---- the reply behind the code's

module _ {replied : Reply} {n : ℕ} {masks : List ℕ} {r : Walked} (x : Replies replied n masks r) where
  done_slots : (v : ℕ) → r ≡ Ok (Found v) → replied ≡ slots v (map offsets (take n masks))
  done_slots v e = go replied refl
    where
      go : (o : Reply) → replied ≡ o → replied ≡ slots v (map offsets (take n masks))
      go (slots w os) f = let t = x.to_slots w os f in let a = t.0 in let b = t.1 in cc
      go (full w) f = let t = x.to_full w f in cc
      go unfinished f = let t = x.to_unfinished f in cc

  full_full : (v : ℕ) → r ≡ Ok (NoRoomLeft v) → replied ≡ full v
  full_full v e = go replied refl
    where
      go : (o : Reply) → replied ≡ o → replied ≡ full v
      go (slots w os) f = let t = (x.to_slots w os f).0 in cc
      go (full w) f = let t = x.to_full w f in cc
      go unfinished f = let t = x.to_unfinished f in cc

  unfinished_so : r ≡ over → replied ≡ unfinished
  unfinished_so e = go replied refl
    where
      go : (o : Reply) → replied ≡ o → replied ≡ unfinished
      go (slots w os) f = let t = (x.to_slots w os f).0 in cc
      go (full w) f = let t = x.to_full w f in cc
      go unfinished f = f

-- ---- the assignment is short

-- so it is told of an area without a byte
size_small : {p : ArrayVec Circuit} (l : Loaded p) → assignment_size (request l.req) < detail_end
unfolding allocate ◌else◌ given assignment_size
size_small l =
    (rw (l.fine, lt-ltb 0 (assignment_size (request l.req)) (omega arith)) at (details_fit (allot l.req 0 []) (omega arith))).first

module _ (p : ArrayVec Circuit) (needed : ℕ) (size : SizeFor p needed) where
  pub needed_small : Loaded p → needed < detail_end
  needed_small l = omega (arith, size (request l.req) l.stands, size_small l)

  -- an area that is too short
  pub too_short_lem : (budget : ℕ) (old : List ℕ) → length old < needed → Allots p budget old (Short needed) old
  unfolding given
  too_short_lem budget old k = record { is = λ q s. rw (← size q s, lt-ltb (length old) needed k) refl }

  -- an area with room: the answer is that of the search
  module _ (old : List ℕ) (room : needed ≤ length old) (budget : ℕ) (masks : List ℕ) (r : Walked) (replied : SlotsFor p budget masks r) where
    searched : (q : Request) → Stands q p → allotting q budget old ≡ settled budget old (reply budget (whole q))
    searched q s = rw ((short_none (assignment_size q) old).1 (omega (arith, size q s))) refl

    pub no_room_lem : (v : ℕ) → r ≡ Ok (NoRoomLeft v) → Allots p budget old (NoRoom v) old
    no_room_lem v e = record { is = λ q s. sym (searched q s ∙ ap (settled budget old) (full_full (replied q s) v e)) }

    pub not_finished : r ≡ over → Allots p budget old (Unfinished budget) old
    not_finished e = record { is = λ q s. sym (searched q s ∙ ap (settled budget old) (unfinished_so (replied q s) e)) }

    module _ (v : ℕ) (e : r ≡ Ok (Found v)) where
      abbrev assigned : List (List ℕ)
      assigned = map offsets (take (circuits_in p) masks)

      is_long : (q : Request) → Stands q p → length (assignment_bytes assigned) ≡ needed
      is_long q s =
          let f = given_fits q s.sound v assigned (reply_slots budget (whole q) v assigned (done_slots (replied q s) v e)).0 in
          assignment-length q assigned (record { each = f.each; suits = f.suits }) ∙ sym (size q s)

      pub room_here : Loaded p → length (assignment_bytes assigned) ≤ length old
      room_here l = omega (arith, is_long (request l.req) l.stands)

      pub given_here : {new : List ℕ} {n : ℕ} → Wrote (assignment_bytes assigned) old new n → Allots p budget old (Allocated v needed) new
      given_here w = record {
        is = λ q s. sym (searched q s ∙ ap (settled budget old) (done_slots (replied q s) v e) ∙ rw (w.area, is_long q s) refl);
      }
