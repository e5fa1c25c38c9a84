-- What the check over rows and bytes says of the request and its offsets: a line meets a series where their ports are one and some slot matches.
-- And what callers know of rows and lines that were read. Assumes nothing.
use Prim.Native.Nat.{ℕ, zero, suc, ◌%◌, ◌≤◌, ◌<◌}
use mathlib.Core.Path.{◌≡◌, refl, sym, ap, ap₂, ◌∙◌}
use mathlib.Core.Logic.{◌⊎◌, inl, inr}
use mathlib.Core.Bool.{Bool, true, false}
use mathlib.Core.List.{List, [], ◌∷◌}
use mathlib.Core.Option.{Option, none}
use native.Mathlib.Omega.{arith}
use borrow.Author.Tests.{eq-eqb, ne_eqb, ltb-true}
use lib.Dec.{eqb, eqb→eq, ltb}
use lib.ListN.{length, get_or}
use Rattle.arrayvec.specs.ArrayVec.{ArrayVec}
use Rattle.model.specs.Sizes.{buffers_most, resources_most, local, inport_of, table_file}
use Rattle.model.specs.Divisor.{gcd}
use Rattle.model.specs.Tests.{◌and◌, neg, least, given, ◌else◌, first}
use Rattle.model.specs.Network.{Network, Request, Circuit, send, circuit_of, hops, hop, inport, to_router}
use Rattle.model.specs.Holding.{offsets_of}
use Rattle.model.specs.Lines.{Series, line_of, meets?, serves?, series, offset_of, one_line, part_line, two_line, series_fault, lines_fault}
use Rattle.model.specs.declared.Line.{Line}
use Rattle.model.specs.Reading.{table_walk, table}
use Rattle.model.specs.Answers.{damage}
use Rattle.model.proofs.Tests.{and→, →and, eq→eqb, least_same, bool_same, get_or-up_to}
use Rattle.model.specs.Sound.{SoundRequest, LeadsTo, SoundLine}
use Rattle.model.proofs.Sound.{hop_small}
use Rattle.model.proofs.Readers.{table_sound}
use Rattle.file_line.specs.Parts.{LineIn}
use Rattle.file_line.proofs.Parts.{line_is, line_good}
use Rattle.plan.specs.Ports.{port_of}
use Rattle.plan.specs.Plan.{circuits_in, circuit_in, Stands}
use Rattle.plan.specs.declared.Circuit.{Circuit as Planned}
use Rattle.plan.proofs.Laws.{cycle_is, sends_are, send_count_is}
use Rattle.line_chains.specs.Chains.{port_at, line_in, has, Tabled}
use Rattle.line_series.specs.Matching.{agrees, covers}
use Rattle.line_series.specs.Judging.{meets, serves_part, fault_at}
use Rattle.line_series.proofs.Least.{meets_at, part_at, one_of, again_at, fault_by, fault_is}
use Rattle.line_check.specs.Checks.{first_of, no_send, hop_fault, offset_fault, circuit_fault, fault_in, Facts}

-- ---- tests and searches that agree

module _ {A : Type 0} where
  first_same : (n : ℕ) (f g : ℕ → Option A) → ((i : ℕ) → i < n → f i ≡ g i) → first n f ≡ first n g
  unfolding first
  first_same zero f g same = refl
  first_same (suc n) f g same =
      ap₂ ◌else◌ (same 0 (omega arith)) (first_same n (λ i. f (suc i)) (λ i. g (suc i)) (λ i h. same (suc i) (omega arith)))

  -- those of a list by number
  first_in_lem : (os : List ℕ) (f : ℕ → Option A) → first_of os f ≡ first (length os) (λ o. f (get_or os o 0))
  unfolding first_of first
  first_in_lem [] f = refl
  first_in_lem (o ∷ os) f = ap (λ x. f o else x) (first_in_lem os f)

-- ---- ports

-- where a series stands: at its router's local inport, or at a buffer that leads to its router
data AtPort (net : Network) (s : Series) (port : ℕ) : Type 0 where
  at_local : s.inp ≡ local → port ≡ inport_of s.router → AtPort net s port
  at_buffer : s.inp ≡ port → port < buffers_most → to_router net port ≡ s.router → AtPort net s port

port_is_local : (router i : ℕ) → i ≡ local → port_of router i ≡ inport_of router
port_is_local router i e = rw (eq-eqb i local e) refl

port_is_buffer : (router i : ℕ) → i < buffers_most → port_of router i ≡ i
port_is_buffer router i h = rw (ne_eqb i local (λ e. omega arith)) refl

module _ (net : Network) (small : length net.links ≤ buffers_most) (l : Line) (good : SoundLine net l) (s : Series) (port : ℕ) where
  -- it stands there where router and in are the line's
  same_port : AtPort net s port → l.router ≡ s.router → l.inp ≡ s.inp → port_of l.router l.inp ≡ port
  same_port (at_local i p) er ei = port_is_local l.router l.inp (ei ∙ i) ∙ ap inport_of er ∙ sym p
  same_port (at_buffer i h to) er ei = port_is_buffer l.router l.inp (omega (arith, ei, i)) ∙ ei ∙ i

  port_same : AtPort net s port → (l.inp ≡ local) ⊎ LeadsTo net l.inp l.router → port_of l.router l.inp ≡ port → (l.router ≡ s.router) × (l.inp ≡ s.inp)
  port_same (at_local i p) (inl e) x = (omega (arith, port_is_local l.router l.inp e), e ∙ sym i)
  port_same (at_local i p) (inr b) x = absurd (omega (arith, b.known, port_is_buffer l.router l.inp (omega (arith, b.known))))
  port_same (at_buffer i h to) (inl e) x = absurd (omega (arith, port_is_local l.router l.inp e))
  port_same (at_buffer i h to) (inr b) x =
      let e : l.inp ≡ port = sym (port_is_buffer l.router l.inp (omega (arith, b.known))) ∙ x in
      (sym b.to ∙ ap (λ n. to_router net n) e ∙ to, e ∙ sym i)

  port_test : AtPort net s port → (eqb l.router s.router and eqb l.inp s.inp) ≡ eqb (port_of l.router l.inp) port
  port_test at = bool_same _ _
      (λ t. let e = and→ _ _ t in eq→eqb (same_port at (eqb→eq _ _ e.0) (eqb→eq _ _ e.1)))
      (λ t. let e = port_same at good.inp (eqb→eq _ _ t) in →and _ _ (eq→eqb e.0) (eq→eqb e.1))

and_assoc : (a b c : Bool) → (a and b and c) ≡ ((a and b) and c)
unfolding ◌and◌
and_assoc true b c = refl
and_assoc false b c = refl

-- where a line meets, it stands at the port, and serves whole where every slot matches
part_only : (p a w : Bool) → ((p and a) and neg (p and w)) ≡ (p and a and neg w)
unfolding ◌and◌
part_only true a w = refl
part_only false a w = refl

-- ---- the lines of a table without a fault against a series

module _ (q : Request) (sound : SoundRequest q) (t : List ℕ) (whole : damage table_file (table_walk q.network t) ≡ none) where
  abbrev net : Network
  net = q.network

  abbrev Lines : List Line
  Lines = table q.network t

  abbrev line_at : (m : ℕ) → m < length Lines → LineIn net t m
  line_at m h = record { whole = whole; low = h }

  -- what callers know of the lines
  port_low : (m : ℕ) → m < length Lines → port_at t m < resources_most
  unfolding port_at
  port_low m h = pick good.inp
    where
      good : SoundLine net (line_in t m)
      good = line_good net t m (line_at m h)

      pick : ((line_in t m).inp ≡ local) ⊎ LeadsTo net (line_in t m).inp (line_in t m).router → port_of (line_in t m).router (line_in t m).inp < resources_most
      pick (inl e) = omega (arith, port_is_local (line_in t m).router (line_in t m).inp e, good.router, sound.routers)
      pick (inr b) = omega (arith, port_is_buffer (line_in t m).router (line_in t m).inp (omega (arith, b.known, sound.buffers)), b.known, sound.buffers)

  pub tabled : Tabled t (length Lines)
  tabled = record {
    few = (table_sound net t whole).few;
    port = port_low;
    period = λ m h. let g = line_good net t m (line_at m h) in record { low = g.some; high = g.short };
    slot = λ m h. (line_good net t m (line_at m h)).slot;
  }

  module _ (s : Series) (port : ℕ) (at : AtPort net s port) where
    at_line : (m : ℕ) → m < length Lines
        → (eqb (line_of Lines m).router s.router and eqb (line_of Lines m).inp s.inp) ≡ has t port m
    unfolding port_at
    at_line m h =
        rw (line_is net t m (line_at m h))
        (port_test net sound.buffers (line_in t m) (line_good net t m (line_at m h)) s port at)

    meets_same : (m : ℕ) → m < length Lines → meets? (line_of Lines m) s ≡ meets_at t (length Lines) port s.cycle s.start m
    unfolding meets? meets agrees
    meets_same m h =
        and_assoc _ _ _
        ∙ ap₂ ◌and◌ (at_line m h)
        (ap (λ (l : Line). eqb (s.start % gcd s.cycle l.period) (l.slot % gcd s.cycle l.period)) (line_is net t m (line_at m h)))

    serves_same : (m : ℕ) → m < length Lines → serves? (line_of Lines m) s ≡ (has t port m and covers s.cycle s.start (line_in t m))
    unfolding serves? covers
    serves_same m h =
        and_assoc _ _ _
        ∙ ap₂ ◌and◌ (at_line m h)
        (ap (λ (l : Line). eqb (s.cycle % l.period) 0 and eqb (s.start % l.period) l.slot) (line_is net t m (line_at m h)))

    part_same : (m : ℕ) → m < length Lines → (meets? (line_of Lines m) s and neg (serves? (line_of Lines m) s)) ≡ part_at t (length Lines) port s.cycle s.start m
    unfolding serves_part
    part_same m h = rw (serves_same m h, meets_same m h) (part_only (has t port m) (meets t s.cycle s.start m) (covers s.cycle s.start (line_in t m)))

    one_same : one_line Lines s ≡ one_of t (length Lines) port s.cycle s.start
    unfolding one_line
    one_same = least_same (length Lines) _ _ meets_same

    parts_same : part_line Lines s ≡ least (length Lines) (part_at t (length Lines) port s.cycle s.start)
    unfolding part_line
    parts_same = least_same (length Lines) _ _ part_same

    two_same : two_line Lines s ≡ least (length Lines) (again_at t (length Lines) port s.cycle s.start)
    unfolding two_line
    two_same = least_same (length Lines) _ _ (λ m h. ap₂ ◌and◌ (ap (λ n. ltb n m) one_same) (meets_same m h))

  -- the last test asks for a line that is there
  told_same : (n one part two led led' out c a j : ℕ) → (one < n → led ≡ led') → fault_by n one part two led out c a j ≡ fault_by n one part two led' out c a j
  unfolding given ◌else◌ neg
  told_same n one part two led led' out c a j e = pick (ltb one n) refl
    where
      pick : (b : Bool) → ltb one n ≡ b → fault_by n one part two led out c a j ≡ fault_by n one part two led' out c a j
      pick true f = rw (e (ltb-true one n f)) refl
      pick false f = rw f refl

  -- what is found of a series over the bytes is its fault
  fault_same : (c a j port : ℕ) → AtPort net (series q c a j) port
      → fault_at t (length Lines) port (series q c a j).cycle (series q c a j).start (series q c a j).out c a j ≡ series_fault q Lines c a j
  unfolding series_fault
  fault_same c a j port at =
      let s = series q c a j in
      let n = length Lines in
      fault_is t n port s.cycle s.start s.out c a j
      ∙ rw (one_same s port at, parts_same s port at, two_same s port at)
      (told_same n _ _ _ _ _ _ c a j (λ l. ap (λ (x : Line). x.out) (sym (line_is net t _ (line_at _ l)))))

-- ---- a plan

module _ (q : Request) (assigned : List (List ℕ)) (p : ArrayVec Planned) (m t : List ℕ) (lines : ℕ) (f : Facts q assigned p m t lines) where
  stands : Stands q p
  stands = f.booked.stands

  module _ (c : ℕ) (low : c < circuits_in p) where
    abbrev C : Circuit
    C = circuit_of q c

    listed : c < length q.circuits
    listed = omega (arith, stands.many)

    send_is : (j : ℕ) → j < hops C → get_or (circuit_in p c).sends j no_send ≡ send q.network C j
    send_is j on = rw (sends_are stands low) (get_or-up_to (hops C) (send q.network C) j no_send on)

    port_at_lem : (a j : ℕ) → j < hops C → AtPort q.network (series q c a j) (port_of (send q.network C j).router (send q.network C j).inp)
    unfolding series send inport
    port_at_lem a zero on = at_local refl (port_is_local _ _ refl)
    port_at_lem a (suc i) on =
        let small = hop_small q stands.sound c listed i (omega arith) in
        let e = port_is_buffer (send q.network C (suc i)).router (hop C i) small in
        at_buffer (sym e) (omega arith) (ap (λ b. to_router q.network b) e ∙ (stands.sound.path c listed).joined i on)

    hop_is : (a j : ℕ) → j < hops C → hop_fault (circuit_in p c) t lines c a j ≡ series_fault q (table q.network t) c a j
    unfolding series
    hop_is a j on = rw (f.lined, cycle_is stands low, send_is j on) (fault_same q stands.sound t f.whole c a j _ (port_at_lem a j on))

    circuit_is : fault_in p m t lines c
        ≡ first (length (offsets_of assigned c)) (λ o. first (hops C) (λ j. series_fault q (table q.network t) c (offset_of assigned c o) j))
    unfolding circuit_fault offset_fault
    circuit_is =
        rw (f.booked.taken c low, ← send_count_is stands low)
        (first_in_lem (offsets_of assigned c) (offset_fault (circuit_in p c) t lines c)
        ∙ first_same _ _ _ (λ o h. first_same _ _ _ (λ j on. hop_is _ j (omega (arith, send_count_is stands low)))))

  -- what the check finds over the plan is the fault of the request's lines
  pub faults_are : first (circuits_in p) (fault_in p m t lines) ≡ lines_fault q assigned (table q.network t)
  unfolding lines_fault
  faults_are = rw stands.many (first_same (length q.circuits) _ _ (λ c h. circuit_is c (rw stands.many h)))

  -- and the lines are fit for `link`
  pub lines_fit : Tabled t lines
  lines_fit = rw f.lined (tabled q stands.sound t f.whole)
