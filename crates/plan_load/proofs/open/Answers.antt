-- `plan_load::open` meets its contract. Assumes nothing.
use mathlib.Core.Path.{sym, ◌∙◌}
use Rattle.plan_load.proofs.Loading.{fits_by, request_fits}
use Rattle.plan_load.proofs.open.Goals as goal

pub damaged-requires : goal.damaged-requires
damaged-requires c = fits_by _ (λ d e. request_fits _ d (sym e ∙ c.read.ensures))
