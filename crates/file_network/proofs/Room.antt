-- Where the numbers of the network record are in order, the file has the pairs of all its buffers. Assumes nothing.
use Prim.Native.Nat.{ℕ, ◌+◌, ◌*◌, ◌≤◌}
use mathlib.Core.Path.{◌≡◌, sym, ◌∙◌}
use mathlib.Core.List.{List}
use native.Mathlib.Omega.{arith}
use borrow.Author.Tests.{ltb-false}
use lib.ListN.{length}
use Rattle.std.specs.declared.result.Result.TheVariants.{Ok}
use Rattle.model.specs.Sizes.{head_size, counts_size, link_size}
use Rattle.model.specs.Bytes.{length_at, kind_at}
use Rattle.model.specs.Reading.{Verdict, routers_of, buffers_of, from_place, network_rows, network_head}
use Rattle.model.proofs.Tests.{same}
use Rattle.model.proofs.Records.{passed}

pub room : (s : List ℕ) (v : Verdict) (u : Unit {0})
    → v ≡ network_head (length s) (length_at s 0) (kind_at s 0) (routers_of s) (buffers_of s) → v ≡ Ok u → from_place (buffers_of s) ≤ length s
unfolding network_head
room s v u e ok =
    let t = passed (network_rows (length s) (length_at s 0) (kind_at s 0) (routers_of s) (buffers_of s)) (sym e ∙ ok) in
    let inside : head_size + length_at s 0 ≤ length s = ltb-false _ _ t.1.1.1.1.1.0 in
    let long : length_at s 0 ≡ counts_size + link_size * buffers_of s = same _ _ t.1.1.1.1.1.1.1.1.1.0 in
    omega (arith, inside, long)
