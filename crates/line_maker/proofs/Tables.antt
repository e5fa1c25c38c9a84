-- The table by a plan and its masks is the model's table for the request and the offsets that they stand for. Assumes nothing.
use Rattle.std.proofs.Common.{ℕ, ◌<◌, ◌≡◌, List, [], ◌++◌, map, length, arith, sym, ap, ap₂, ◌∙◌}
use Rattle.arrayvec.specs.ArrayVec.{ArrayVec}
use Rattle.model.specs.Sizes.{line_kind, end_kind}
use Rattle.model.specs.Tests.{up_to, joined}
use Rattle.model.specs.Bytes.{record_of}
use Rattle.model.specs.Network.{Request, circuit_of, hops, send}
use Rattle.model.specs.Holding.{offsets_of}
use Rattle.model.specs.Lines.{series, line_for, offset_of, lines_for}
use Rattle.model.specs.Jobs.{line_body, table_bytes}
use Rattle.model.specs.declared.Send.{Send}
use Rattle.model.proofs.Tests.{up_to_same, map-up_to}
use Rattle.plan.specs.declared.Circuit.{Circuit}
use Rattle.plan.specs.Plan.{circuits_in, circuit_in, Booked}
use Rattle.plan.proofs.Laws.{cycle_is, sends_are}
use Rattle.file_writer.proofs.Files.{file_length}
use Rattle.file_writer.proofs.Lists.{map_by_number, joined-map}
use Rattle.line_record.specs.Record.{line_of, line_record}
use Rattle.line_record.proofs.Record.{line_of-is}
use Rattle.line_maker.specs.Files.{offset_bytes, circuit_bytes, table_size}
use Rattle.line_maker.proofs.Sizes.{part_of, parts, table-length}

module _ {q : Request} {assigned : List (List ℕ)} {p : ArrayVec Circuit} {m : List ℕ} (b : Booked q assigned p m) where
  -- what the request has for a send of circuit c with offset a, for an offset, and for all its offsets
  abbrev of_send : (c a j : ℕ) → List ℕ
  of_send c a j = record_of line_kind (line_body (line_for (series q c a j)))

  abbrev of_offset : (c a : ℕ) → List ℕ
  of_offset c a = joined (up_to (hops (circuit_of q c)) (of_send c a))

  abbrev of_circuit : ℕ → List ℕ
  of_circuit c = joined (up_to (length (offsets_of assigned c)) (λ o. of_offset c (offset_of assigned c o)))

  module _ {c : ℕ} (h : c < circuits_in p) where
    offset_is : (a : ℕ) → offset_bytes (circuit_in p c) a ≡ of_offset c a
    unfolding offset_bytes
    offset_is a =
        ap joined
        (ap₂ (λ (d : ℕ) (ss : List Send). map (λ s. line_record (line_of d s a)) ss) (cycle_is b.stands h) (sends_are b.stands h)
        ∙ map-up_to (λ s. line_record (line_of (circuit_of q c).cycle s a)) (hops (circuit_of q c)) (send q.network (circuit_of q c))
        ∙ up_to_same (hops (circuit_of q c)) _ _ (λ j l. ap line_record (line_of-is q c a j)))

    circuit_is : part_of p m c ≡ of_circuit c
    unfolding circuit_bytes
    circuit_is =
        rw (b.taken c h, map_by_number (offset_bytes (circuit_in p c)) (offsets_of assigned c) 0)
        (ap joined (up_to_same (length (offsets_of assigned c)) _ _ (λ o l. offset_is (offset_of assigned c o))))

  pub table_is : table_bytes (lines_for q assigned) ≡ parts p m ++ record_of end_kind []
  unfolding table_bytes lines_for
  table_is =
      simp (joined-map, map-up_to)
      (rw (← b.stands.many) (ap (λ l. joined l ++ record_of end_kind []) (up_to_same (circuits_in p) _ _ (λ c h. sym (circuit_is h)))))

  -- how long it is
  pub table_size_lem : length (table_bytes (lines_for q assigned)) ≡ table_size p m
  table_size_lem = omega (arith, ap length table_is, file_length (parts p m), table-length p m)
