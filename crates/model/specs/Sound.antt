-- What a request, an assignment and a table owe, in document 01's words and apart from the tests that find faults: the files without a fault
-- are the encodings of just these (Format). Assumes nothing: these are definitions.
use Rattle.std.specs.Prelude.{ℕ, zero, suc, ◌≤◌, ◌<◌, ◌≡◌, ◌⊎◌, ◌≢◌, List, length}
use Rattle.model.specs.Sizes.{routers_most, buffers_most, circuits_most, cycle_most, hops_most, lines_most, local}
use Rattle.model.specs.Network.{Network, Circuit, Request, circuit_of, from_router, to_router, hops, hop}
use Rattle.model.specs.Holding.{offsets_of}
use Rattle.model.specs.Lines.{line_of}
use Rattle.model.specs.declared.Line.{Line}
use Rattle.model.specs.Search.{Suits}

-- a circuit: its cycle, its demand, and a path of known buffers that is joined and has no buffer twice
pub record SoundPath (net : Network) (c : Circuit) : Type 0 where
  pub cycle : zero < c.cycle
  pub short : c.cycle ≤ cycle_most
  pub room : c.demand ≤ c.cycle
  pub wants : zero < c.demand
  pub some : zero < hops c
  pub few : hops c ≤ hops_most
  pub known : (j : ℕ) → j < hops c → hop c j < length net.links
  pub joined : (j : ℕ) → suc j < hops c → to_router net (hop c j) ≡ from_router net (hop c (suc j))
  pub once : (i j : ℕ) → i < hops c → j < hops c → hop c i ≡ hop c j → i ≡ j

-- a request: some routers; the two routers of a link differ and are known, and no two links have the same pair; and its circuits
pub record SoundRequest (q : Request) : Type 0 where
  pub some : zero < q.network.routers
  pub routers : q.network.routers ≤ routers_most
  pub buffers : length q.network.links ≤ buffers_most
  pub owned : (b : ℕ) → b < length q.network.links → from_router q.network b < q.network.routers
  pub leads : (b : ℕ) → b < length q.network.links → to_router q.network b < q.network.routers
  pub differ : (b : ℕ) → b < length q.network.links → from_router q.network b ≢ to_router q.network b
  pub pairs : (a b : ℕ) → a < length q.network.links → b < length q.network.links
      → from_router q.network a ≡ from_router q.network b → to_router q.network a ≡ to_router q.network b → a ≡ b
  pub circuits : length q.circuits ≤ circuits_most
  pub path : (c : ℕ) → c < length q.circuits → SoundPath q.network (circuit_of q c)

-- offsets for each circuit: as many as it asks for, rising, below its cycle
pub record SoundOffsets (q : Request) (assigned : List (List ℕ)) : Type 0 where
  pub each : length assigned ≡ length q.circuits
  pub suits : (c : ℕ) → c < length q.circuits → Suits (circuit_of q c) (offsets_of assigned c)

-- a buffer that leads to the router, and one that the router owns
pub record LeadsTo (net : Network) (b router : ℕ) : Type 0 where
  pub known : b < length net.links
  pub to : to_router net b ≡ router

pub record OwnedBy (net : Network) (b router : ℕ) : Type 0 where
  pub known : b < length net.links
  pub from : from_router net b ≡ router

-- a line: its router, its period and its slot, where the packet stands, and the buffer that it is sent to
pub record SoundLine (net : Network) (l : Line) : Type 0 where
  pub router : l.router < net.routers
  pub some : zero < l.period
  pub short : l.period ≤ cycle_most
  pub slot : l.slot < l.period
  pub inp : (l.inp ≡ local) ⊎ LeadsTo net l.inp l.router
  pub out : OwnedBy net l.out l.router

pub record SoundTable (net : Network) (table : List Line) : Type 0 where
  pub few : length table ≤ lines_most
  pub each : (m : ℕ) → m < length table → SoundLine net (line_of table m)
