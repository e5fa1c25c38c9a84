-- The table check over a plan, its masks and the bytes of a table file. Assumes nothing: these are definitions.
use Rattle.std.specs.Prelude.{ℕ, ◌≡◌, List, [], ◌∷◌, length, get_or}
use Rattle.std.proofs.Math.Option.{Option, none}
use Rattle.arrayvec.specs.ArrayVec.{ArrayVec}
use Rattle.model.specs.Tests.{◌else◌, first}
use Rattle.model.specs.Network.{Request}
use Rattle.model.specs.Lines.{lines_fault}
use Rattle.model.specs.Reading.{table_walk, table}
use Rattle.model.specs.Answers.{damage}
use Rattle.model.specs.declared.Answer.{Answer}
use Rattle.model.specs.Sizes.{table_file}
use Rattle.model.specs.declared.Send.{Send}
use Rattle.num_mask.specs.Bits.{offsets}
use Rattle.plan.specs.Plan.{CircuitPlan, circuit_in, Booked}
use Rattle.plan.specs.declared.Circuit.{Circuit}
use Rattle.plan_refusal.specs.Found.{Tested, found}
use Rattle.line_series.specs.Judging.{send_fault}

-- the first that is there of those of a list
unfoldable pub first_of : {A : Type 0} → List ℕ → (ℕ → Option A) → Option A
first_of [] f = none
first_of (x ∷ xs) f = f x else first_of xs f

-- there is no such send
abbrev pub no_send : Send
no_send = record { router = 0; inp = 0; out = 0; after = 0 }

-- the fault of hop j of circuit x, number c, with offset a
abbrev pub hop_fault : CircuitPlan → (t : List ℕ) (lines c a j : ℕ) → Option Answer
hop_fault x t lines c a j = send_fault t lines x.cycle (get_or x.sends j no_send) c a j

-- the first fault of circuit x, number c, with offset a; of all its offsets
unfoldable pub offset_fault : CircuitPlan → (t : List ℕ) (lines c a : ℕ) → Option Answer
offset_fault x t lines c a = first (length x.sends) (hop_fault x t lines c a)

unfoldable pub circuit_fault : CircuitPlan → (mask : ℕ) (t : List ℕ) (lines c : ℕ) → Option Answer
circuit_fault x mask t lines c = first_of (offsets mask) (offset_fault x t lines c)

-- of circuit c of a plan
abbrev pub fault_in : ArrayVec Circuit → (m t : List ℕ) (lines c : ℕ) → Option Answer
fault_in p m t lines c = circuit_fault (circuit_in p c) (get_or m c 0) t lines c

-- the plan, the masks and the bytes stand for a request, its offsets and its lines
pub record Facts (q : Request) (assigned : List (List ℕ)) (p : ArrayVec Circuit) (m t : List ℕ) (lines : ℕ) : Type 0 where
  pub booked : Booked q assigned p m
  pub whole : damage table_file (table_walk q.network t) ≡ none
  pub lined : lines ≡ length (table q.network t)

-- r is the first fault of the lines
abbrev pub LinesFaultIs : ArrayVec Circuit → (m t : List ℕ) (lines : ℕ) → Tested → Type 0
LinesFaultIs p m t lines r =
    (q : Request) (assigned : List (List ℕ)) → Facts q assigned p m t lines → found r ≡ lines_fault q assigned (table q.network t)
