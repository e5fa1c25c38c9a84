-- `vaskunoor::table_tested` meets its contract. Assumes nothing.
use mathlib.Core.Path.{◌≡◌, sym, ◌∙◌}
use mathlib.Core.Option.{some}
use Rattle.std.proofs.Common.{rules}
use Rattle.std.specs.declared.result.Result.TheVariants.{Ok, Err}
use Rattle.model.specs.Sizes.{table_file}
use Rattle.model.specs.Reading.{request, table_walk}
use Rattle.model.specs.Jobs.{table_fault}
use Rattle.file_records.proofs.Endings.{count-stopped}
use Rattle.plan_load.proofs.Loading.{fits_by, told_by, whole_by}
use Rattle.vaskunoor.proofs.Verifying.{table_fits, verify_unread, verify_damaged, tabled_here, verify_told}
use Rattle.vaskunoor.proofs.table_tested.Goals as goal

pub returns-in_err-load_both : goal.returns-in_err-load_both
returns-in_err-load_both c = verify_unread _ _ _ _ c.in_err-load_both.field-0.0 c.from_residual.ensures.1 c.in_err-load_both.ensures.fault

pub damaged-requires : goal.damaged-requires
damaged-requires c = fits_by _ (λ d e. table_fits _ _ d (sym e ∙ c.read.ensures))

pub returns-in_err-lines : goal.returns-in_err-lines
returns-in_err-lines c =
    let was : c.damaged.result ≡ Err c.in_err-lines.field-0.0 = search rules in
    let told : table_fault (request c.args.request.now) c.args.table.now ≡ some c.in_err-lines.field-0.0 =
    told_by table_file _ c.into.ensures (table_walk _ _) _ (λ d e. count-stopped _ d (sym e ∙ c.read.ensures)) _ (sym was ∙ c.damaged.ensures)
    in
    verify_damaged _ _ _ _ _ c.in_ok-load_both.ensures _ c.in_err-lines.field-0.0 c.from_residual-in_err-lines.ensures.1 told

pub verify-requires : goal.verify-requires
verify-requires c =
    let was : c.damaged.result ≡ Ok c.in_ok-lines.lines = search rules in
    tabled_here _ _ _ _ _ c.in_ok-load_both.ensures _ (whole_by _ _ _ (sym was ∙ c.damaged.ensures) ∙ c.read.ensures)

pub returns : goal.returns
returns c =
    let was : c.damaged.result ≡ Ok c.in_ok-lines.lines = search rules in
    verify_told _ _ _ _ _ c.in_ok-load_both.ensures _ (whole_by _ _ _ (sym was ∙ c.damaged.ensures) ∙ c.read.ensures) _ c.verify.ensures
