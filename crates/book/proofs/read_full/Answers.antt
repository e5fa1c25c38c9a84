-- A read goes behind what is there, so the front grows by what it took of the input. Assumes nothing.
use Rattle.std.proofs.Common.{◌≡◌, ℕ, ◌+◌, ◌-◌, ◌≤◌, List, ◌++◌, rules, arith, length, take, drop, slice_range, sym, ap, ◌∙◌, subst, le_refl, drop_at, length-take-le}
use Rattle.std.proofs.lemmas.Slice.{take-put_mid_below}
use Rattle.std.specs.Io.KnownBytes.{Consumes}
use Rattle.std.proofs.KnownBytes.{Consumes-trans}
use borrow.Rule.Slice.PartMut.{put_mid, post_of}
use lib.Seq.{take-add, take-append-le}
use Rattle.book.proofs.read_full.Goals as goal

-- a front that stays, and the bytes behind it, are the longer front
take_split : (a n : ℕ) (old new : List ℕ) → take a new ≡ take a old → take a old ++ slice_range new a (a + n) ≡ take (a + n) new
take_split a n old new front =
    let same : (a + n) - a ≡ n = omega arith in
    ap (λ l. l ++ slice_range new a (a + n)) (sym front) ∙ ap (λ k. take a new ++ take k (drop a new)) same ∙ sym (take-add a n new)

-- what stands behind the front is what was put there
put_behind : (a k n : ℕ) (xs ys : List ℕ) → a ≤ length xs → n ≤ length ys → slice_range (put_mid a k xs ys) a (a + n) ≡ take n ys
put_behind a k n xs ys within fits =
    let same : (a + n) - a ≡ n = omega arith in
    let after = post_of a k xs in
    ap (take ((a + n) - a)) (drop_at (take a xs) (ys ++ after) a (length-take-le a xs within)) ∙ ap (λ m. take m (ys ++ after)) same ∙ take-append-le n ys after fits

pub loop-done-preserved : goal.loop-done-preserved
loop-done-preserved g c =
    let from = c.loop-done.done in
    let room = length c.loop-done.area - from in
    let within = c.loop-done.invariant.0 in
    let area = put_mid from room c.loop-done.area c.read.new.buf in
    let part = put_behind from room c.in_ok-got.got c.loop-done.area c.read.new.buf within c.in_ok-got.ensures.bound.0 in
    let joined = take_split from c.in_ok-got.got c.loop-done.area area (take-put_mid_below _ _ _ _ _ (le_refl _) within) in
    (search rules, subst (Consumes _ _) (ap (λ l. take from c.loop-done.area ++ l) (sym part) ∙ joined) (Consumes-trans _ _ _ _ _ c.loop-done.invariant.1 c.in_ok-got.ensures.bytes.0))
