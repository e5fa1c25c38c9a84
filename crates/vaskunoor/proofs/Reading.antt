-- What is told of a request that was read, in the words of the job. Assumes nothing.
use Prim.Native.Nat.{ℕ}
use mathlib.Core.Path.{◌≡◌, refl, sym, ap}
use mathlib.Core.List.{List, []}
use mathlib.Core.Option.{Option, some}
use Rattle.std.specs.declared.result.Result.TheVariants.{Ok}
use Rattle.arrayvec.specs.ArrayVec.{ArrayVec}
use Rattle.model.specs.Tests.{or_else}
use Rattle.model.specs.Answers.{damage}
use Rattle.model.specs.Reading.{request_walk}
use Rattle.model.specs.Jobs.{Contract, read, read_request, request_fault}
use Rattle.model.specs.Sizes.{request_file}
use Rattle.model.specs.declared.Answer.{Answer}
use Rattle.model.specs.declared.Answer.TheVariants.{Done}
use Rattle.file_records.specs.Walks.{places_of}
use Rattle.file_records.proofs.Endings.{places-whole}

module _ (s : List ℕ) where
  pub read_whole : (v : ArrayVec ℕ) → Ok v ≡ places_of (request_walk s) → Contract (read s) Done []
  unfolding read_request or_else
  read_whole v e = record { answer = sym (ap (λ w. or_else (damage request_file w) Done) (places-whole (request_walk s) v e)); area = refl }

  pub read_damaged : (a : Answer) → request_fault s ≡ some a → Contract (read s) a []
  unfolding read_request or_else
  read_damaged a e = record { answer = sym (ap (λ (o : Option Answer). or_else o Done) e); area = refl }
