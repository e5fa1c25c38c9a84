-- What the making of a table comes to, one law for each way out of it. Assumes nothing.
use Rattle.std.proofs.Common.{ℕ, ◌≤◌, ◌<◌, ◌≡◌, List, length, Ok, Err, refl, sym, ap, ◌∙◌}
use Rattle.std.proofs.Math.Option.{none}
use borrow.Author.Tests.{lt-ltb, le-ltb}
use Rattle.arrayvec.specs.ArrayVec.{ArrayVec}
use Rattle.model.specs.Tests.{given, ◌else◌}
use Rattle.model.specs.Network.{Request}
use Rattle.model.specs.Holding.{clash_fault}
use Rattle.model.specs.declared.Answer.{Answer}
use Rattle.model.specs.declared.Answer.TheVariants.{Made, Short}
use Rattle.plan.specs.declared.Circuit.{Circuit}
use Rattle.plan.specs.Plan.{Booked}
use Rattle.plan_refusal.specs.Found.{Tested, found}
use Rattle.clash_first.specs.First.{FirstIs}
use Rattle.line_maker.specs.Files.{table_size, WroteTable}
use Rattle.line_maker.proofs.Tables.{table_size_lem}
use Rattle.call_make.specs.Make.{table_of, Makes}

-- ---- y is the first clash

module _ (p : ArrayVec Circuit) (m : List ℕ) (y : Tested) (first : FirstIs p m y) where
  pub make_clash : (old : List ℕ) (a : Answer) → y ≡ Err a → Makes p m old a old
  unfolding ◌else◌
  make_clash old a h = record { is = λ q assigned b. rw (sym (first q assigned b) ∙ ap found h) refl }

  -- there is none, and so many bytes are needed
  module _ (n : y ≡ Ok tt) (needed : ℕ) (e : needed ≡ table_size p m) where
    module _ {q : Request} {assigned : List (List ℕ)} (b : Booked q assigned p m) where
      clear : clash_fault q assigned ≡ none
      clear = sym (first q assigned b) ∙ ap found n

      needed_is : length (table_of q assigned) ≡ needed
      needed_is = table_size_lem b ∙ sym e

    pub make_short : (old : List ℕ) → length old < needed → Makes p m old (Short needed) old
    unfolding ◌else◌ given
    make_short old h = record { is = λ q assigned b. rw (clear b, needed_is b, lt-ltb (length old) needed h) refl }

    pub make_made : (old new : List ℕ) → needed ≤ length old → (r : ℕ) → WroteTable p m old new r → Makes p m old (Made needed) new
    unfolding ◌else◌ given
    make_made old new h r w = record {
      is = λ q assigned b. rw (clear b, (w.wrote q assigned b).area, needed_is b, le-ltb (length old) needed h) refl;
    }
