-- The bytes of an assignment, circuit by circuit. Assumes nothing.
use Rattle.std.proofs.Common.{ℕ, ◌+◌, ◌*◌, ◌≤◌, ◌<◌, ◌≡◌, List, [], ◌∷◌, length, get_or, map, refl, sym, ap, ◌∙◌, arith}
use Rattle.std.specs.List.{sum_by}
use Rattle.std.proofs.Math.ListN.{length-map}
use Rattle.std.proofs.lemmas.List.{ext_get_or, get_or-map}
use Rattle.std.proofs.lemmas.List.Recursion.{is_sum_by}
use Rattle.arrayvec.specs.ArrayVec.{ArrayVec}
use Rattle.model.specs.Sizes.{cycle_most, head_size}
use Rattle.model.specs.Tests.{sum}
use Rattle.model.specs.Network.{Request, Circuit as Asked, no_circuit as none_asked}
use Rattle.model.specs.Jobs.{assignment_size}
use Rattle.plan.specs.declared.Circuit.{Circuit}
use Rattle.plan.specs.Plan.{CircuitPlan, circuits_in, shown, no_circuit, Stands}
use Rattle.plan.proofs.Laws.{demand_is}
use Rattle.slot_allot.specs.Slots.{SizeFor}

-- those of one circuit
abbrev pub size : Circuit → ℕ
size c = head_size + c.demand

sizes : (xs : List Circuit) → sum (map size xs) ≡ sum_by size xs
unfolding sum
sizes xs = is_sum_by (λ xs. sum (map size xs)) size refl (λ x xs. refl) xs

small : (xs : List Circuit) → sum (map size xs) ≤ length xs * (head_size + cycle_most)
unfolding sum
small [] = omega arith
small (x ∷ xs) = omega (arith, small xs, x.demand_fits, x.cycle.fits.high)

pub sizes_small : (xs : List Circuit) → sum_by size xs ≤ length xs * (head_size + cycle_most)
sizes_small xs = rw (← sizes xs) (small xs)

map_shown : (xs : List Circuit) → map size xs ≡ map (λ x. head_size + x.demand) (map shown xs)
map_shown [] = refl
map_shown (x ∷ xs) = ap (λ l. size x ∷ l) (map_shown xs)

module _ {q : Request} {p : ArrayVec Circuit} (s : Stands q p) where
  asked : map size p.items ≡ map (λ x. head_size + x.demand) q.circuits
  asked =
      let len : length (map size p.items) ≡ length (map (λ (x : Asked). head_size + x.demand) q.circuits) = simp length-map s.many in
      ext_get_or 0 (map size p.items) (map (λ x. head_size + x.demand) q.circuits) len (λ c h.
      let listed : c < circuits_in p = omega (arith, length-map p.items size) in
      let shown_here : c < length (map shown p.items) = omega (arith, length-map p.items shown) in
      let here : c < length q.circuits = omega (arith, s.many) in
      ap (λ l. get_or l c 0) (map_shown p.items)
      ∙ get_or-map (λ (x : CircuitPlan). head_size + x.demand) (map shown p.items) c no_circuit 0 shown_here
      ∙ ap (λ n. head_size + n) (demand_is s listed)
      ∙ sym (get_or-map (λ (x : Asked). head_size + x.demand) q.circuits c none_asked 0 here))

pub sized : (p : ArrayVec Circuit) {total : ℕ} → total ≡ sum_by size p.items → SizeFor p (total + head_size)
unfolding assignment_size
sized p e q s = rw (e, ← sizes p.items) (ap (λ l. sum l + head_size) (asked s))
