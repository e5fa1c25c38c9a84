-- `vaskunoor::read_request` meets its contract. Assumes nothing.
use mathlib.Core.Path.{sym, ◌∙◌}
use Rattle.model.specs.Sizes.{request_file}
use Rattle.model.specs.Reading.{request_walk}
use Rattle.file_records.proofs.Endings.{places-stopped}
use Rattle.plan_load.proofs.Loading.{fits_by, request_fits, told_by, whole_by}
use Rattle.vaskunoor.proofs.Reading.{read_whole, read_damaged}
use Rattle.vaskunoor.proofs.read_request.Goals as goal

pub damaged-requires : goal.damaged-requires
damaged-requires c = fits_by _ (λ d e. request_fits _ d (sym e ∙ c.read.ensures))

pub returns-in-Ok : goal.returns-in-Ok
returns-in-Ok c = read_whole _ _ (whole_by _ _ _ (sym c.in-Ok.is ∙ c.damaged.ensures) ∙ c.read.ensures)

pub returns-in-Err : goal.returns-in-Err
returns-in-Err c =
    read_damaged _ _
    (told_by request_file _ c.into.ensures (request_walk _) _ (λ d e. places-stopped _ d (sym e ∙ c.read.ensures)) _ (sym c.in-Err.is ∙ c.damaged.ensures))
