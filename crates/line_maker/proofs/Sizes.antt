-- How many bytes the lines of a table have. Assumes nothing.
use Rattle.std.proofs.Common.{ℕ, ◌+◌, ◌*◌, ◌≡◌, List, [], ◌∷◌, map, length, get_or, length-append, arith, refl, ap, ◌∙◌}
use Rattle.arrayvec.specs.ArrayVec.{ArrayVec}
use Rattle.model.specs.Sizes.{head_size, line_size}
use Rattle.model.specs.Tests.{up_to, joined, sum}
use Rattle.model.specs.declared.Send.{Send}
use Rattle.model.proofs.Tests.{up_to_same}
use Rattle.num_mask.specs.Bits.{offsets}
use Rattle.plan.specs.declared.Circuit.{Circuit}
use Rattle.plan.specs.Plan.{CircuitPlan, circuits_in, circuit_in}
use Rattle.file_writer.proofs.Lists.{joined_length, sum_more}
use Rattle.line_record.specs.Record.{line_of}
use Rattle.line_record.proofs.Record.{line_record-length}
use Rattle.line_maker.specs.Files.{send_bytes, offset_bytes, circuit_bytes, lines_size, table_size}

-- lists of one length
even_map : {A : Type 0} (g : A → List ℕ) (l : List A) (k : ℕ) → ((a : A) → length (g a) ≡ k) → length (joined (map g l)) ≡ length l * k
unfolding joined
even_map g [] k e = omega arith
even_map g (a ∷ l) k e = omega (arith, length-append (g a) (joined (map g l)), e a, even_map g l k e)

module _ (x : CircuitPlan) where
  pub send_bytes-length : (a : ℕ) (s : Send) → length (send_bytes x a s) ≡ head_size + line_size
  send_bytes-length a s = line_record-length (line_of x.cycle s a)

  offset_length : (a : ℕ) → length (offset_bytes x a) ≡ length x.sends * (head_size + line_size)
  unfolding offset_bytes
  offset_length a = even_map (send_bytes x a) x.sends (head_size + line_size) (send_bytes-length a)

  circuit_length : (mask : ℕ) → length (circuit_bytes x mask) ≡ lines_size x mask
  unfolding circuit_bytes
  circuit_length mask = even_map (offset_bytes x) (offsets mask) (length x.sends * (head_size + line_size)) offset_length ∙ omega arith

module _ (p : ArrayVec Circuit) (m : List ℕ) where
  -- the lines of circuit c, and of all
  abbrev pub part_of : ℕ → List ℕ
  part_of c = circuit_bytes (circuit_in p c) (get_or m c 0)

  abbrev pub parts : List ℕ
  parts = joined (up_to (circuits_in p) part_of)

  pub table-length : table_size p m ≡ length parts + head_size
  unfolding table_size
  table-length =
      omega (arith, joined_length (circuits_in p) part_of, ap sum (up_to_same (circuits_in p) (λ c. length (part_of c)) (λ c. lines_size (circuit_in p c) (get_or m c 0)) (λ c h. circuit_length (circuit_in p c) (get_or m c 0))))

  -- ---- how long the file is with the lines of the circuits below c alone
  abbrev pub size_before : ℕ → ℕ
  size_before c = head_size + sum (up_to c (λ i. lines_size (circuit_in p i) (get_or m i 0)))

  pub size_before-none : size_before 0 ≡ head_size
  unfolding up_to sum
  size_before-none = refl

  pub size_before-more : (c : ℕ) → size_before (c + 1) ≡ size_before c + lines_size (circuit_in p c) (get_or m c 0)
  size_before-more c = omega (arith, sum_more c (λ i. lines_size (circuit_in p i) (get_or m i 0)))

  pub size_before-all : table_size p m ≡ size_before (circuits_in p)
  unfolding table_size
  size_before-all = refl
