-- From the code's form to the definition: with a grid that is right, the search of a plan is the search of the request that it stands for.
-- Assumes nothing.
use mathlib.Core.Path.{◌≡◌, refl, sym, ap, ◌∙◌, fun_ext}
use mathlib.Core.Bool.{Bool}
use mathlib.Core.List.{List, [], ◌∷◌, ◌++◌, map}
use Prim.Native.Nat.{ℕ, ◌<◌}
use native.Mathlib.Omega.{arith}
use lib.ListN.{length, length-map}
use Rattle.model.specs.Network.{Request, Circuit as Asked, no_circuit}
use Rattle.model.specs.Search.{Walk, search, whole}
use Rattle.model.proofs.Tests.{up_to_back}
use Rattle.std.proofs.lemmas.List.{get_or-map}
use Rattle.model.proofs.SameSearch.{whole_same}
use Rattle.arrayvec.specs.ArrayVec.{ArrayVec}
use Rattle.plan.specs.declared.Circuit.{Circuit}
use Rattle.plan.specs.Plan.{circuits_in, Stands}
use Rattle.plan.proofs.Laws.{cycle_is, demand_is}
use Rattle.slot_grid.specs.Table.{clash_in, Filled}
use Rattle.slot_search.specs.Code.{pathless, circuits}

-- a circuit without its path
abbrev bare : Asked → Asked
bare x = record { cycle = x.cycle; demand = x.demand; path = [] }

-- the search does not look at a path
search_bare : (clash : ℕ → ℕ → ℕ → ℕ → Bool) (xs : List Asked) (earlier : List (List ℕ)) → search clash (map bare xs) earlier ≡ search clash xs earlier
unfolding search
search_bare clash [] earlier = refl
search_bare clash (x ∷ xs) earlier =
    let next : ◌≡◌ {A = List ℕ → Walk} (λ os. search clash (map bare xs) (earlier ++ (os ∷ []))) (λ os. search clash xs (earlier ++ (os ∷ []))) =
    fun_ext (λ os. search_bare clash xs (earlier ++ (os ∷ []))) in
    rw next refl

module _ {q : Request} {p : ArrayVec Circuit} (s : Stands q p) where
  circuits_bare : circuits p ≡ map bare q.circuits
  unfolding circuits
  circuits_bare =
      let len = length-map q.circuits bare in
      rw (s.many ∙ sym len)
      (up_to_back (map bare q.circuits) (pathless p) no_circuit (λ c h.
      let listed : c < circuits_in p = omega (arith, s.many) in
      let k : c < length q.circuits = omega arith in
      rw (cycle_is s listed, demand_is s listed) (sym (get_or-map bare q.circuits c no_circuit no_circuit k))))

  pub bridge : {grid : List (List (List ℕ))} → Filled q (circuits_in p) grid → search (clash_in grid) (circuits p) [] ≡ whole q
  bridge {grid} right =
      ap (λ (xs : List Asked). search (clash_in grid) xs []) circuits_bare
      ∙ search_bare (clash_in grid) q.circuits []
      ∙ whole_same q (clash_in grid) (rw s.many at right).at
