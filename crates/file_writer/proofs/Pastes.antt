-- Laws of bytes laid into an area: none, one behind the other, and from the front. Assumes nothing.
use Prim.Native.Nat.{ℕ, ◌+◌, ◌≤◌}
use mathlib.Core.Path.{◌≡◌, sym, ap, ◌∙◌}
use mathlib.Core.List.{List, [], ◌++◌, append_assoc}
use native.Mathlib.Nat.{zero-add}
use native.Mathlib.Omega.{arith}
use lib.ListN.{length, take, drop, length-append, length-drop}
use lib.Seq.{take_at, drop_at, drop-drop, length-take-le, paste-zero}
use Rattle.model.specs.Bytes.{over}
use Rattle.file_writer.specs.Pasting.{pasted, Laid}

-- no bytes
pub pasted-none : (out : List ℕ) (at : ℕ) → pasted out at [] ≡ out
unfolding pasted
pasted-none out at = sym (paste-zero out at [])

-- from the front
pub pasted-over : (out bytes : List ℕ) → pasted out 0 bytes ≡ over bytes out
unfolding pasted over
pasted-over out bytes = ap (λ n. bytes ++ drop n out) (zero-add (length bytes))

-- what stands before and in the new bytes
front : (out : List ℕ) (at : ℕ) (bytes : List ℕ) → at ≤ length out → length (take at out ++ bytes) ≡ at + length bytes
front out at bytes h = length-append (take at out) bytes ∙ ap (λ n. n + length bytes) (length-take-le at out h)

pub pasted_length : (out : List ℕ) (at : ℕ) (bytes : List ℕ) → at + length bytes ≤ length out → length (pasted out at bytes) ≡ length out
unfolding pasted
pasted_length out at bytes h =
    omega (arith, length-append (take at out ++ bytes) (drop (at + length bytes) out), front out at bytes (omega arith), length-drop (at + length bytes) out)

-- bytes behind others
pub pasted_twice : (out : List ℕ) (at : ℕ) (a b : List ℕ) → at ≤ length out → pasted (pasted out at a) (at + length a) b ≡ pasted out at (a ++ b)
unfolding pasted
pasted_twice out at a b h =
    let p : List ℕ = take at out ++ a in
    let k : ℕ = at + length a in
    let rest : List ℕ = drop k out in
    let n : length p ≡ k = front out at a h in
    let long : k + length b ≡ at + length (a ++ b) = omega (arith, length-append a b) in
    ap (λ l. l ++ b ++ drop (k + length b) (p ++ rest)) (take_at p rest k n)
    ∙ ap (λ l. p ++ b ++ l) (sym (drop-drop (length b) k (p ++ rest)) ∙ ap (drop (length b)) (drop_at p rest k n) ∙ drop-drop (length b) k out)
    ∙ ap (λ i. p ++ b ++ drop i out) long
    ∙ ap (λ l. l ++ drop (at + length (a ++ b)) out) (append_assoc (take at out) a b)

-- the same for two writers in turn, where the second begins at k
pub pasted_then : (out₀ : List ℕ) {out out' : List ℕ} (at : ℕ) {k : ℕ} (a b : List ℕ)
    → out ≡ pasted out₀ at a → k ≡ at + length a → out' ≡ pasted out k b → at ≤ length out₀ → out' ≡ pasted out₀ at (a ++ b)
pasted_then out₀ at {k} a b e h f room =
    f ∙ ap (λ o. pasted o k b) e ∙ ap (λ i. pasted (pasted out₀ at a) i b) h ∙ pasted_twice out₀ at a b room

pub laid_then : {out₀ out out' : List ℕ} (at : ℕ) {k r : ℕ} (a b : List ℕ)
    → Laid out₀ at a out k → Laid out k b out' r → at ≤ length out₀ → Laid out₀ at (a ++ b) out' r
laid_then {out₀} at a b h l room = record { area = pasted_then out₀ at a b h.area h.next l.area room; next = omega (arith, h.next, l.next, length-append a b) }
