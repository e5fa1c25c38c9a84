-- What the walk over a file's records came to, by what was told of it. Assumes nothing.
use Prim.Native.Nat.{ℕ}
use mathlib.Core.Path.{◌≡◌, refl, sym, ap}
use mathlib.Core.List.{List}
use lib.ListN.{length}
use Rattle.std.specs.declared.result.Result.TheVariants.{Ok, Err}
use Rattle.arrayvec.specs.ArrayVec.{ArrayVec}
use Rattle.model.specs.Reading.{Walked, complete, stopped}
use Rattle.model.specs.declared.Damage.{Damage}
use Rattle.file_records.specs.Walks.{places_of, count_of}

pub places-whole : (w : Walked) (v : ArrayVec ℕ) → Ok v ≡ places_of w → w ≡ complete v.items
places-whole (complete l) v e = let s : v ≡ record { items = l } = cc in ap (λ (u : ArrayVec ℕ). complete u.items) (sym s)
places-whole (stopped f p) v e = absurd cc

pub places-stopped : (w : Walked) (d : Damage) → Err d ≡ places_of w → w ≡ stopped d.fault d.byte
places-stopped (complete l) d e = absurd cc
places-stopped (stopped f p) d e = cc

pub count-whole : (w : Walked) (n : ℕ) → Ok n ≡ count_of w → (l : List ℕ) × (w ≡ complete l) × (n ≡ length l)
count-whole (complete l) n e = (l, refl, cc)
count-whole (stopped f p) n e = absurd cc

pub count-stopped : (w : Walked) (d : Damage) → Err d ≡ count_of w → w ≡ stopped d.fault d.byte
count-stopped (complete l) d e = absurd cc
count-stopped (stopped f p) d e = cc
