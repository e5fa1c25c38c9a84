-- `plan_load::load_both` meets its contract. Assumes nothing.
use mathlib.Core.Path.{◌≡◌, sym, ◌∙◌}
use Rattle.std.specs.declared.result.Result.TheVariants.{Ok, Err}
use Rattle.std.proofs.Common.{rules}
use mathlib.Core.Option.{some}
use Rattle.model.specs.Sizes.{assignment_file}
use Rattle.model.specs.Reading.{request, assignment_walk}
use Rattle.file_records.proofs.Endings.{places-stopped}
use Rattle.model.specs.Jobs.{assignment_fault}
use Rattle.plan_load.proofs.Loading.{fits_by, assignment_fits, told_by, whole_by, request_refused, assignment_refused, risings_here, both_loaded}
use Rattle.plan_load.proofs.load_both.Goals as goal

pub returns-in_err-starts : goal.returns-in_err-starts
returns-in_err-starts c = request_refused _ _ _ _ _ c.in_err-starts.field-0.0 c.from_residual.ensures.1 c.in_err-starts.ensures

pub damaged-requires : goal.damaged-requires
damaged-requires c = fits_by _ (λ d e. assignment_fits _ _ d (sym e ∙ c.read-records.ensures))

pub returns-in_err-booked : goal.returns-in_err-booked
returns-in_err-booked c =
    let was : c.damaged.result ≡ Err c.in_err-booked.field-0.0 = search rules in
    let told : assignment_fault (request c.args.request.now) c.args.assignment.now ≡ some c.in_err-booked.field-0.0 =
    told_by assignment_file _ c.into.ensures (assignment_walk _ _) _ (λ d e. places-stopped _ d (sym e ∙ c.read-records.ensures)) _ (sym was ∙ c.damaged.ensures)
    in
    assignment_refused _ _ _ _ c.in_ok-starts.ensures.0.fine _ c.in_err-booked.field-0.0 c.from_residual-in_err-booked.ensures.1 told

pub fill-requires : goal.fill-requires
fill-requires c =
    let was : c.damaged.result ≡ Ok c.in_ok-booked.booked = search rules in
    risings_here _ _ c.open.new.plan c.args.masks.now c.in_ok-starts.ensures.0.fine _ (whole_by _ _ _ (sym was ∙ c.damaged.ensures) ∙ c.read-records.ensures)

pub returns : goal.returns
returns c =
    let was : c.damaged.result ≡ Ok c.in_ok-booked.booked = search rules in
    both_loaded _ _ _ _ c.in_ok-starts.ensures.0.fine _ (whole_by _ _ _ (sym was ∙ c.damaged.ensures) ∙ c.read-records.ensures) c.in_ok-starts.ensures.1 c.fill.ensures
