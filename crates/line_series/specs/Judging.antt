-- The lines that meet a series, and what is told of it. Assumes nothing: these are definitions.
use Rattle.std.specs.Prelude.{ℕ, ◌+◌, Bool, cond, List, [], ◌∷◌, Option, None, Some, eqb}
use Rattle.std.proofs.Math.Option.{Option as Found, some}
use Rattle.std.specs.List.{find}
use Rattle.model.specs.Tests.{◌and◌, neg, given}
use Rattle.model.specs.declared.Answer.{Answer}
use Rattle.model.specs.declared.Answer.TheVariants.{Unserved, Partly, Twice, Astray}
use Rattle.model.specs.declared.Send.{Send}
use Rattle.plan.specs.Ports.{port_of}
use Rattle.line_chains.specs.Chains.{line_in, lines_at}
use Rattle.line_series.specs.Matching.{agrees, covers}
use Rattle.line_series.specs.declared.Met.{Met}

-- the second that passes
abbrev pub second : (ℕ → Bool) → List ℕ → Option ℕ
second p [] = None
second p (x ∷ xs) = cond (p x) (find p xs) (second p xs)

-- ---- lines by number against the slots start, start + cycle, ..

module _ (t : List ℕ) (cycle start : ℕ) where
  -- line m meets them; it does without serving them whole
  unfoldable pub meets : ℕ → Bool
  meets m = agrees cycle start (line_in t m)

  unfoldable pub serves_part : ℕ → Bool
  serves_part m = meets m and neg (covers cycle start (line_in t m))

  -- of these lines
  abbrev pub met_of : List ℕ → Met
  met_of ms = record { one = find meets ms; part = find serves_part ms; two = second meets ms }

-- ---- the tests 13, 14, 15, 16 in order

-- where line m leads to led m
abbrev pub told : (led : ℕ → ℕ) (out c a j : ℕ) (one part two : Option ℕ) → Found Answer
told led out c a j None part two = some (Unserved c a j)
told led out c a j (Some m) (Some k) two = some (Partly c a j k)
told led out c a j (Some m) None (Some k) = some (Twice c a j k)
told led out c a j (Some m) None None = given (neg (eqb (led m) out)) (Astray c a j m)

-- what is told of the slots start, start + cycle, .. at a port, to go to out, as those of circuit c, offset a and hop j
unfoldable pub fault_at : (t : List ℕ) (lines port cycle start out c a j : ℕ) → Found Answer
fault_at t lines port cycle start out c a j =
    let met = met_of t cycle start (lines_at t lines port) in
    told (λ m. (line_in t m).out) out c a j met.one met.part met.two

-- and of those of a send with offset a
abbrev pub send_fault : (t : List ℕ) (lines cycle : ℕ) → Send → (c a j : ℕ) → Found Answer
send_fault t lines cycle s c a j = fault_at t lines (port_of s.router s.inp) cycle (a + s.after) s.out c a j
