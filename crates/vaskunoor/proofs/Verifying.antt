-- What was read of the three files in the words of the table check. Assumes nothing.
use Prim.Native.Nat.{ℕ}
use mathlib.Core.Path.{◌≡◌, refl, sym, ap, ◌∙◌}
use mathlib.Core.List.{List}
use mathlib.Core.Option.{Option, none, some}
use Rattle.std.specs.Result.{IsErrAnd}
use Rattle.std.specs.declared.result.Result.TheVariants.{Ok, Err}
use Rattle.arrayvec.specs.ArrayVec.{ArrayVec}
use Rattle.model.specs.Tests.{◌else◌, or_else}
use Rattle.model.specs.Answers.{damage}
use Rattle.model.specs.Holding.{clash_fault}
use Rattle.model.specs.Lines.{lines_fault}
use Rattle.model.specs.Reading.{request, assignment, table_walk, table}
use Rattle.model.specs.Jobs.{check_tables, request_fault, assignment_fault, table_fault}
use Rattle.model.specs.Sizes.{table_file}
use Rattle.model.specs.declared.Damage.{Damage}
use Rattle.model.specs.declared.Answer.{Answer}
use Rattle.model.specs.declared.Answer.TheVariants.{Done}
use Rattle.model.proofs.Readers.{table_byte_fits}
use Rattle.file_records.specs.Walks.{count_of}
use Rattle.file_records.proofs.Endings.{count-whole, count-stopped}
use Rattle.file_table.proofs.Parts.{lines_are}
use Rattle.plan.specs.declared.Circuit.{Circuit}
use Rattle.plan_refusal.specs.Found.{Tested, found}
use Rattle.plan_refusal.proofs.Firsts.{handed_on}
use Rattle.plan_load.specs.Loaded.{ByteFits, LoadsBoth}
use Rattle.line_chains.specs.Chains.{Tabled}
use Rattle.line_check.specs.Checks.{Facts}
use Rattle.line_check.proofs.Standing.{lines_fit}
use Rattle.call_verify.specs.Verify.{FaultIs}
use Rattle.vaskunoor.proofs.Loading.{else_assoc, unread}

pub table_fits : (req tab : List ℕ) (d : Damage) → Err d ≡ count_of (table_walk (request req).network tab) → ByteFits d
table_fits req tab d e = record { small = table_byte_fits (request req).network tab d.fault d.byte (count-stopped (table_walk (request req).network tab) d e) }

module _ (req asg tab : List ℕ) where
  -- what speaks against the lines of files that were read
  abbrev behind : Option Answer
  behind = clash_fault (request req) (assignment (request req) asg) else lines_fault (request req) (assignment (request req) asg) (table (request req).network tab)

  verify_by : (o : Option Answer) → o ≡ unread req asg → check_tables req asg tab ≡ or_else (o else table_fault (request req) tab else behind) Done
  unfolding check_tables
  verify_by o e =
      ap (λ (u : Option Answer). or_else u Done)
      (else_assoc (request_fault req) (assignment_fault (request req) asg) (table_fault (request req) tab else behind)
      ∙ ap (λ (u : Option Answer). u else table_fault (request req) tab else behind) (sym e))

  pub verify_unread : (r : Tested) (a : Answer) → IsErrAnd r (λ b. b ≡ a) → some a ≡ unread req asg → or_else (found r) Done ≡ check_tables req asg tab
  unfolding ◌else◌ or_else
  verify_unread r a h e = ap (λ (o : Option Answer). or_else o Done) (handed_on r a h) ∙ sym (verify_by (some a) e)

  module _ (p : ArrayVec Circuit) (m : List ℕ) (g : LoadsBoth req asg p m (Ok tt)) where
    verify_read : (o : Option Answer) → table_fault (request req) tab ≡ o → check_tables req asg tab ≡ or_else (o else behind) Done
    unfolding ◌else◌
    verify_read o e = verify_by none g.fault ∙ ap (λ (u : Option Answer). or_else (u else behind) Done) e

    pub verify_damaged : (r : Tested) (a : Answer) → IsErrAnd r (λ b. b ≡ a) → table_fault (request req) tab ≡ some a → or_else (found r) Done ≡ check_tables req asg tab
    unfolding ◌else◌ or_else
    verify_damaged r a h e = ap (λ (o : Option Answer). or_else o Done) (handed_on r a h) ∙ sym (verify_read (some a) e)

    -- there are so many lines
    module _ (lines : ℕ) (read : Ok lines ≡ count_of (table_walk (request req).network tab)) where
      facts : Facts (request req) (assignment (request req) asg) p m tab lines
      facts = record {
        booked = g.booked refl;
        whole = ap (damage table_file) (count-whole (table_walk (request req).network tab) lines read).1;
        lined = lines_are (request req).network tab lines read;
      }

      pub tabled_here : Tabled tab lines
      tabled_here = lines_fit _ _ _ _ _ _ facts

      pub verify_told : (y : Tested) → FaultIs p m tab lines y → or_else (found y) Done ≡ check_tables req asg tab
      unfolding ◌else◌
      verify_told y is = ap (λ (o : Option Answer). or_else o Done) (is _ _ facts) ∙ sym (verify_read none facts.whole)
