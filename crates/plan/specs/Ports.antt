-- Inports as resources, and what the sends of a plan keep. Assumes nothing: these are definitions.
use Rattle.std.specs.Prelude.{ℕ, ◌<◌, cond, eqb}
use Rattle.model.specs.Sizes.{routers_most, resources_most, inport_of, local}
use Rattle.model.specs.declared.Send.{Send}

-- an inport as a resource: a buffer, or the local inport of its router
abbrev pub port_of : ℕ → ℕ → ℕ
port_of router inp = cond (eqb inp local) (inport_of router) inp

-- a send of a router that there is, from an inport that there is
pub record SendFits (s : Send) : Type 0 where
  pub router : s.router < routers_most
  pub port : port_of s.router s.inp < resources_most
