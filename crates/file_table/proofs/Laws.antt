-- Laws that the tests on a line are proved by. Assumes nothing.
use Prim.Native.Nat.{ℕ}
use mathlib.Core.Path.{◌≡◌, refl}
use mathlib.Core.List.{List}
use borrow.Author.Tests.{lt-ltb, le-ltb, le-leb, lt-leb, eq-eqb, ne_eqb}
use Rattle.model.specs.Reading.{routers_of, request}
use Rattle.model.proofs.Readers.{buffers_are, from_is, to_is}

pub routers_are : (req : List ℕ) → (request req).network.routers ≡ routers_of req
unfolding request
routers_are req = refl

-- tests on numbers, and the network of the request that was read
pub ruleset links = (lt-ltb, le-ltb, le-leb, lt-leb, eq-eqb, ne_eqb, routers_are, buffers_are, from_is, to_is)
