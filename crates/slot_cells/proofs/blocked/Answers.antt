-- `slot_cells::blocked` meets its contract. Assumes nothing.
use Rattle.std.proofs.Common.{◌≡◌, [], ◌||◌, ◌≤◌, map, length, get_or, take, refl, ap, ◌∙◌, arith, rules, tests}
use Rattle.std.proofs.lemmas.Iterator.{YieldsList-from_slice, YieldsList-from_zip}
use Rattle.std.proofs.lemmas.Iterator.Consumers.{fold_from_yields_List}
use Rattle.std.proofs.Math.Nat.{zero-add}
use Rattle.std.proofs.Math.ListN.{length-take}
use Rattle.model.specs.Sizes.{circuits_most}
use Rattle.model.specs.Search.{barred}
use Rattle.slot_grid.specs.Table.{clash_in}
use Rattle.num_mask.specs.Bits.{bit, offsets}
use Rattle.num_mask.proofs.Laws.{bit-none}
use Rattle.slot_cells.specs.Cells.{gathered}
use Rattle.slot_cells.proofs.ShutLaws.{joined, joined-bit}
use Rattle.slot_cells.proofs.blocked.Goals as goal

pub returns : goal.returns
returns c = λ i.
    let x = c.args in
    let rows = get_or x.grid.now x.c [] in
    let masks = take x.c x.taken.now in
    let is : c.fold.result ≡ joined 0 rows masks =
    fold_from_yields_List _ (λ y p. gathered p.0 y (offsets p.1)) 0 c.fold.result c.fold.ensures.ran
    (YieldsList-from_zip (YieldsList-from_slice rows cc) (YieldsList-from_slice masks cc)) (λ y p z q k. search (rules, tests)) in
    let long : length rows ≡ circuits_most = search rules in
    let fits : length masks ≤ length rows = simp length-take (omega arith) in
    ap (λ n. bit n i) is ∙ joined-bit x.grid.now x.c i 0 0 rows masks fits (λ k h. rw zero-add refl)
    ∙ ap (λ b. b || barred (clash_in x.grid.now) x.c i 0 (map offsets masks)) (bit-none i)
