-- What a walk over the records of a file comes to, by its step and by what it keeps. Assumes nothing: these are definitions.
use Rattle.std.specs.Prelude.{ℕ, ◌≤◌, ◌<◌, ◌≡◌, List, length, Result, Ok, Err}
use Rattle.std.specs.List.{FoldsTo}
use Rattle.model.specs.Reading.{Step, next_at, Walked, complete, stopped}
use Rattle.model.specs.declared.Damage.{Damage}
use Rattle.arrayvec.specs.ArrayVec.{ArrayVec}
use denote.Ref.{MutBor}

-- a step may be called at each byte of a file of `size` bytes behind at most `most` records, and a record that it passes is one of at
-- most `most` and ends inside the file
pub record Walkable (pre : ℕ → ℕ → Type 0) (post : ℕ → ℕ → Step → Type 0) (first most : ℕ) : Type 0 where
  pub size : ℕ
  pub begins : first ≤ size
  pub callable : (n p : ℕ) → n ≤ most → p ≤ size → pre n p
  pub few : (n p next : ℕ) → n ≤ most → p ≤ size → post n p (next_at next) → n < most
  pub inside : (n p next : ℕ) → n ≤ most → p ≤ size → post n p (next_at next) → next ≤ size

-- a step answers what `said` does
pub record Tells (post : ℕ → ℕ → Step → Type 0) (said : ℕ → ℕ → Step) : Type 0 where
  pub is : (n p : ℕ) (r : Step) → post n p r → r ≡ said n p

module _ {A : Type 0} where
  -- what is kept of a start turns `old` into `new`
  pub record Kept (post : MutBor A → ℕ → Unit {0} → MutBor A → Type 0) (old : A) (start : ℕ) (new : A) : Type 0 where
    pub shown : MutBor A
    pub shows : shown.now ≡ old
    pub left : MutBor A
    pub called : post shown start tt left
    pub leaves : left.now ≡ new

  -- the start of a record may be kept as long as fewer than `most` are
  pub record Keepable (pre : MutBor A → ℕ → Type 0) (post : MutBor A → ℕ → Unit {0} → MutBor A → Type 0) (kept : A) (most : ℕ) : Type 0 where
    pub room : (found : List ℕ) (now : A) (start : ℕ) (b : MutBor A) → length found < most → FoldsTo (Kept post) kept found now → b.now ≡ now
        → pre b start

  -- of a file without a fault r is what is kept of each start in order, and of another one its fault
  abbrev pub Walks : (post : MutBor A → ℕ → Unit {0} → MutBor A → Type 0) → A → Walked → Result A Damage → Type 0
  Walks post kept (complete starts) r = (last : A) × FoldsTo (Kept post) kept starts last × (r ≡ Ok last)
  Walks post kept (stopped f p) r = r ≡ Err (record { fault = f; byte = p })

-- where the records of a file start, or its fault
abbrev pub places_of : Walked → Result (ArrayVec ℕ) Damage
places_of (complete starts) = Ok (record { items = starts })
places_of (stopped f p) = Err (record { fault = f; byte = p })

-- how many there are, or its fault
abbrev pub count_of : Walked → Result ℕ Damage
count_of (complete starts) = Ok (length starts)
count_of (stopped f p) = Err (record { fault = f; byte = p })
