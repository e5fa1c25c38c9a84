-- The order of the refusals and the bounds of the sizes, as cases that compute: two neighbours exchanged, or a bound moved by one, would give
-- another answer. Assumes nothing.
use Prim.Native.Nat.{ℕ, suc, ◌*◌}
use mathlib.Core.Path.{◌≡◌, refl}
use mathlib.Core.List.{List, [], ◌∷◌, ◌++◌, map}
use lib.ListN.{take, drop, set}
use Rattle.model.specs.Sizes.{slot_most, word_end, detail_end}
use Rattle.model.specs.Divisor.{gcd}
use Rattle.model.specs.Tests.{◌and◌, neg, least, up_to, any, joined, sum, given, ◌else◌, first, or_else}
use Rattle.model.specs.Bytes.{record_of, over}
use Rattle.model.specs.Network.{inport, after, hop_use, uses, send}
use Rattle.model.specs.Holding.{Booking, holds?, meet?, offsets_clash?, clashes?, both?, what_in, slot_of, booking, pair_clash, clash_fault}
use Rattle.model.specs.Lines.{meets?, serves?, series, line_for, lines_for, one_line, part_line, two_line, series_fault, lines_fault}
use Rattle.model.specs.Search.{cells, barred, search, clash_of, whole, reply}
use Rattle.model.specs.Reading.{Step, next_at, ended, refused, request_step, request_walk, request, assignment_walk, assignment, table_step, table_walk, table}
use Rattle.model.specs.Answers.{telling}
use Rattle.model.specs.Jobs.{Call, read, allot, check, make, verify, read_request, allocate, check_assignment, make_tables, check_tables, assignment_bytes, table_bytes, assignment_size}
use Rattle.model.specs.declared.Fault.TheVariants.{Kind, Count}
use Rattle.model.proofs.Cases.{Case, run, case, end, one, two, from_local, from_buffer, blank, P, slots_p, late, line0, line1, table_p, Q, slots_q, narrow}

-- ---- files with a few bytes changed
-- In P the network starts at byte 0 (routers at 4, buffers at 6, links at 8), circuit 0 at 14 (cycle at 18, demand at 19, hops at 20, spare
-- byte at 21, path at 22), circuit 1 at 26 and the end at 36. In a line the router is at 4, the period at 5, the slot at 6, the spare byte at
-- 7, in at 8 and out at 10.

-- a file is refused: the number, and the byte that is told
abbrev in_request : List ℕ → ℕ → ℕ → Case
in_request s number byte = case (read s) (telling number 1 byte 0 0) []

abbrev in_assignment : List ℕ → ℕ → ℕ → Case
in_assignment s number byte = case (check P s) (telling number 2 byte 0 0) []

abbrev in_table : List ℕ → ℕ → ℕ → Case
in_table s number byte = case (verify P slots_p s) (telling number 3 byte 0 0) []

-- a clash is told: the circuits, the slot and the resource
abbrev clashing : List ℕ → List ℕ → ℕ → ℕ → ℕ → ℕ → Case
clashing req asg c d t w = case (check req asg) (telling 12 c d t w) []

abbrev done : Call → Case
done call = case call (telling 0 0 0 0 0) []

-- an end record with a body
abbrev long_end : List ℕ
long_end = 1 ∷ 0 ∷ 5 ∷ 0 ∷ 9 ∷ []

-- a circuit of cycle d and demand 1 over one buffer, and over two
abbrev over1 : ℕ → ℕ → List ℕ
over1 d b = 6 ∷ 0 ∷ 2 ∷ 0 ∷ d ∷ 1 ∷ 1 ∷ 0 ∷ b ∷ 0 ∷ []

abbrev over2 : ℕ → ℕ → ℕ → List ℕ
over2 d b e = 8 ∷ 0 ∷ 2 ∷ 0 ∷ d ∷ 1 ∷ 2 ∷ 0 ∷ b ∷ 0 ∷ e ∷ 0 ∷ []

-- the network of P with other circuits
abbrev with_p : List ℕ → List ℕ
with_p circuits = take 14 P ++ circuits ++ end

-- P with demand 2 in circuit 0
abbrev wide : List ℕ
wide = set P 19 2

-- a chain of 17 buffers, and one circuit over the first h of them
abbrev chain : ℕ → List ℕ
chain h =
    record_of 1 (18 ∷ 0 ∷ 17 ∷ 0 ∷ joined (up_to 17 (λ b. b ∷ suc b ∷ [])))
    ++ record_of 2 (1 ∷ 1 ∷ h ∷ 0 ∷ joined (up_to h (λ b. b ∷ 0 ∷ [])))
    ++ end

-- ---- the order of document 01: each case breaks two neighbouring tests at once, and has the answer of the first.
-- Left out, as no case can tell them apart: two neighbours with one number and one byte (the possible lengths, 3; the counts, 4; the values,
-- 5; what is wrong with a path, 6; with offsets, 8; with a line, 9), and two that never hold together (13 and 14; the kinds; a clash and a
-- fault of the assignment, which then has no offsets).

abbrev pub orders : List Case
orders =
    -- the network: header cut 1, kind 2, possible length 3, body cut 1, counts 4, length against counts 3, values 5; then the next record
    in_request (set (take 3 P) 2 7) 1 0 ∷
    in_request (set (set P 2 7) 0 2) 2 0 ∷
    in_request (set (take 5 P) 0 2) 3 0 ∷
    in_request (set (set P 0 6) 1 1) 3 0 ∷
    in_request (set (take 14 P) 0 11) 3 0 ∷
    in_request (set (take 13 P) 4 0) 1 0 ∷
    in_request (set (take 13 P) 4 65) 1 0 ∷
    in_request (set (take 13 P) 6 129) 1 0 ∷
    in_request (set (set P 4 0) 6 2) 4 0 ∷
    in_request (set (set P 4 65) 6 2) 4 0 ∷
    in_request (set P 6 129) 4 0 ∷
    in_request (set (set P 6 2) 9 0) 3 0 ∷
    in_request (set (take 17 P) 9 0) 5 0 ∷
    -- a circuit: header cut 1, kind 2, possible length 3, body cut 1, counts 4, length against counts 3, values 5, path 6; then the next record
    in_request (set (take 17 P) 16 7) 1 14 ∷
    in_request (set (set P 16 7) 14 4) 2 14 ∷
    in_request (set (take 21 P) 14 4) 3 14 ∷
    in_request (set P 14 38) 3 14 ∷
    in_request (set (take 26 P) 14 9) 3 14 ∷
    in_request (set (take 25 P) 18 0) 1 14 ∷
    in_request (set (take 25 P) 20 17) 1 14 ∷
    in_request (set (set P 18 33) 20 1) 4 14 ∷
    in_request (set (set P 19 0) 20 1) 4 14 ∷
    in_request (set (set P 19 5) 20 1) 4 14 ∷
    in_request (set P 20 0) 4 14 ∷
    in_request (set P 20 17) 4 14 ∷
    in_request (set (set P 20 1) 21 1) 3 14 ∷
    in_request (set (set P 20 1) 22 3) 3 14 ∷
    in_request (set (set P 21 1) 24 2) 5 14 ∷
    in_request (set P 24 3) 5 14 ∷
    in_request (set (set P 24 2) 28 7) 6 14 ∷
    -- the end of a request: header cut 1, length 3, bytes behind it 7, which are told last
    in_request (take 39 P) 1 36 ∷
    in_request (set P 36 1 ++ 0 ∷ []) 3 36 ∷
    in_request (set P 24 2 ++ 0 ∷ []) 6 14 ∷
    -- offsets: header cut 1, kind 2, surplus 8, possible length 3, body cut 1, another length than N 8; then the next record
    in_assignment (set (take 3 slots_p) 2 7) 1 0 ∷
    in_assignment (one 0 ++ two 0 2 ++ set (one 0) 2 7 ++ end) 2 11 ∷
    in_assignment (set (set slots_p 2 7) 0 0) 2 0 ∷
    in_assignment (one 0 ++ two 0 2 ++ take 3 (one 0)) 1 11 ∷
    in_assignment (one 0 ++ two 0 2 ++ 0 ∷ 0 ∷ 3 ∷ 0 ∷ end) 8 11 ∷
    in_assignment (one 0 ++ two 0 2 ++ take 4 (one 0)) 8 11 ∷
    in_assignment (0 ∷ 0 ∷ 3 ∷ 0 ∷ two 0 2 ++ end) 3 0 ∷
    in_assignment (set slots_p 0 33) 3 0 ∷
    in_assignment (take 5 (two 0 1)) 1 0 ∷
    in_assignment (one 4 ++ set (two 0 2) 2 7 ++ end) 8 0 ∷
    -- the end of an assignment: header cut 1, too early 8, length 3, bytes behind it 7, which are told last
    in_assignment (one 0 ++ take 3 end) 1 5 ∷
    in_assignment (one 0 ++ long_end) 8 5 ∷
    in_assignment (end ++ 0 ∷ []) 8 0 ∷
    in_assignment (one 0 ++ two 0 2 ++ long_end) 3 11 ∷
    in_assignment (one 0 ++ two 2 2 ++ end ++ 0 ∷ []) 8 5 ∷
    -- a line: header cut 1, kind 2, length 3, body cut 1, values 9; then the next record
    in_table (set (take 3 line0) 2 7) 1 0 ∷
    in_table (set (set line0 2 7) 0 7 ++ end) 2 0 ∷
    in_table (set (take 12 line0) 0 9) 3 0 ∷
    in_table (set (take 11 line0) 4 3) 1 0 ∷
    in_table (set line0 4 3 ++ set line1 2 7 ++ end) 9 0 ∷
    -- the end of a table: header cut 1, length 3, bytes behind it 7, which are told last
    in_table (table_p 4 ++ take 3 end) 1 48 ∷
    in_table (table_p 4 ++ long_end) 3 48 ∷
    in_table (set line0 4 3 ++ end ++ 0 ∷ []) 9 0 ∷
    -- the assignment's check: request, assignment, clash
    case (check [] []) (telling 1 1 0 0 0) [] ∷
    case (check P (late ++ 0 ∷ [])) (telling 7 2 15 0 0) [] ∷
    -- allocation: request, area, search
    case (allot (take 39 P) 0 []) (telling 1 1 36 0 0) [] ∷
    case (allot P 9 (blank 14)) (telling 17 15 0 0 0) (blank 14) ∷
    case (allot narrow 1000000 (blank 13)) (telling 17 14 0 0 0) (blank 13) ∷
    -- the maker: request, assignment, clash, area
    case (make [] [] []) (telling 1 1 0 0 0) [] ∷
    case (make P (late ++ 0 ∷ []) []) (telling 7 2 15 0 0) [] ∷
    case (make P late []) (telling 12 0 1 0 1) [] ∷
    -- the table's check: request, assignment, table, clash, lines
    case (verify [] [] []) (telling 1 1 0 0 0) [] ∷
    case (verify P (late ++ 0 ∷ []) []) (telling 7 2 15 0 0) [] ∷
    case (verify P late (end ++ 0 ∷ [])) (telling 7 3 4 0 0) [] ∷
    case (verify P late end) (telling 12 0 1 0 1) [] ∷
    -- a clash: the lower circuit, the higher, the slot, the resource
    clashing (with_p (over1 4 0 ++ over1 4 1 ++ over1 4 1 ++ over1 4 0)) (one 3 ++ one 0 ++ one 0 ++ one 3 ++ end) 0 3 3 0 ∷
    clashing (with_p (over1 4 0 ++ over1 4 0 ++ over1 4 0)) (one 3 ++ one 3 ++ one 3 ++ end) 0 1 3 0 ∷
    clashing (with_p (over2 2 1 2 ++ over2 2 2 1)) (one 1 ++ one 0 ++ end) 0 1 0 2 ∷
    -- lines: the circuit, the offset, the hop; of each series 14, 15, 16
    case (verify wide (two 0 2 ++ two 0 2 ++ end) (line0 ++ line1 ++ end)) (telling 13 0 2 0 65535) [] ∷
    case (verify wide (two 0 2 ++ two 0 2 ++ end) (line0 ++ end)) (telling 13 0 0 1 65535) [] ∷
    case (verify P slots_p end) (telling 13 0 0 0 65535) [] ∷
    case (verify Q slots_q (from_buffer 1 4 1 0 1 ++ from_local 0 4 0 0 ++ end)) (telling 16 0 0 1 0) [] ∷
    case (verify P slots_p (line0 ++ line1 ++ from_buffer 1 8 1 0 1 ++ end)) (telling 14 0 0 1 2) [] ∷
    case (verify Q slots_q (from_local 0 4 0 0 ++ from_buffer 1 8 1 0 1 ++ end)) (telling 14 0 0 1 1) [] ∷
    case (verify Q slots_q (from_local 0 4 0 0 ++ from_buffer 1 4 1 0 1 ++ from_buffer 1 4 1 0 3 ++ end)) (telling 15 0 0 1 2) [] ∷
    -- the lines that are made: by circuit, offset, hop
    case (make wide (two 1 3 ++ two 1 3 ++ end) (blank 76)) (telling 0 76 0 0 0) (from_local 0 4 1 0 ++ from_buffer 1 4 2 0 1 ++ from_local 0 4 3 0 ++ from_buffer 1 4 0 0 1 ++ from_local 1 6 1 1 ++ from_local 1 6 3 1 ++ end) ∷
    []

pub all_orders : map (λ c. run c.call) orders ≡ map (λ c. c.expected) orders
unfolding read_request allocate check_assignment make_tables check_tables assignment_bytes table_bytes assignment_size request_walk request assignment_walk assignment table_walk table cells barred search clash_of whole reply meets? serves? series line_for lines_for one_line part_line two_line series_fault lines_fault holds? meet? offsets_clash? clashes? what_in slot_of booking pair_clash clash_fault inport after hop_use uses send record_of over ◌and◌ neg least up_to any joined sum given ◌else◌ first or_else gcd
all_orders = refl

-- ---- the bounds: just inside and just outside

abbrev pub bounds : List Case
bounds =
    -- routers: 0, 1 (and no buffers), 64, 65, and 259 by the high byte
    in_request (set P 4 0) 4 0 ∷
    done (read (4 ∷ 0 ∷ 1 ∷ 0 ∷ 1 ∷ 0 ∷ 0 ∷ 0 ∷ end)) ∷
    done (read (set P 4 64)) ∷
    in_request (set P 4 65) 4 0 ∷
    in_request (set P 5 1) 4 0 ∷
    -- buffers: 128 pass the counts, and the length is told; 129, and 259 by the high byte
    in_request (set P 6 128) 3 0 ∷
    in_request (set P 6 129) 4 0 ∷
    in_request (set P 7 1) 4 0 ∷
    -- the network's length: 2, 8 and 12 for three buffers, 9, 260 (body cut), 262
    in_request (set P 0 2) 3 0 ∷
    in_request (set P 0 8) 3 0 ∷
    in_request (set P 0 12) 3 0 ∷
    in_request (set P 0 9) 3 0 ∷
    in_request (set (set P 0 4) 1 1) 1 0 ∷
    in_request (set (set P 0 6) 1 1) 3 0 ∷
    -- kinds by both bytes
    in_request (set P 2 2) 2 0 ∷
    in_request (set P 3 1) 2 0 ∷
    in_request (set P 16 1) 2 14 ∷
    in_request (set P 17 1) 2 14 ∷
    in_request (set P 38 4) 2 36 ∷
    in_request (set P 39 1) 2 36 ∷
    -- a link: an unknown router as from and as to, a router to itself, a pair twice
    in_request (set P 8 3) 5 0 ∷
    in_request (set P 11 3) 5 0 ∷
    in_request (set P 9 0) 5 0 ∷
    in_request (set (set P 12 0) 13 1) 5 0 ∷
    -- the cycle: 0, 1, 32, 33
    in_request (set P 18 0) 4 14 ∷
    done (read (set P 18 1)) ∷
    done (read (set P 18 32)) ∷
    in_request (set P 18 33) 4 14 ∷
    -- the demand: 0, the cycle, above it
    in_request (set P 19 0) 4 14 ∷
    done (read (set P 19 4)) ∷
    in_request (set P 19 5) 4 14 ∷
    -- hops: 0, 1 (circuit 1 of P), 16, 17 against the length, and 17 with the length 38
    in_request (set P 20 0) 4 14 ∷
    done (read (chain 16)) ∷
    in_request (set P 20 17) 4 14 ∷
    in_request (chain 17) 3 42 ∷
    -- a circuit's length: 4, 7, 6 and 10 for two hops, 36 (body cut), 38
    in_request (set P 14 4) 3 14 ∷
    in_request (set P 14 7) 3 14 ∷
    in_request (set P 14 6) 3 14 ∷
    in_request (set P 14 10) 3 14 ∷
    in_request (set P 14 36) 1 14 ∷
    in_request (set P 14 38) 3 14 ∷
    -- a circuit's spare byte; an unknown buffer, and one by the high byte; a buffer twice; a buffer that does not lead on
    in_request (set P 21 1) 5 14 ∷
    in_request (set P 34 3) 5 26 ∷
    in_request (set P 35 1) 5 26 ∷
    in_request (with_p (10 ∷ 0 ∷ 2 ∷ 0 ∷ 4 ∷ 1 ∷ 3 ∷ 0 ∷ 1 ∷ 0 ∷ 2 ∷ 0 ∷ 1 ∷ 0 ∷ [])) 6 14 ∷
    in_request (set P 24 2) 6 14 ∷
    -- bytes cut by one, and one byte too many
    in_request (take 13 P) 1 0 ∷
    in_request (take 25 P) 1 14 ∷
    in_request (take 36 P) 1 36 ∷
    in_request (P ++ 0 ∷ []) 7 40 ∷
    in_assignment (take 4 slots_p) 1 0 ∷
    in_assignment (slots_p ++ 0 ∷ []) 7 15 ∷
    in_table (take 11 line0) 1 0 ∷
    in_table (table_p 4 ++ end ++ 0 ∷ []) 7 52 ∷
    -- offsets: 0, 32 and 33 of them where one is asked for, one where two are, too few records and too many
    in_assignment (0 ∷ 0 ∷ 3 ∷ 0 ∷ two 0 2 ++ end) 3 0 ∷
    in_assignment (32 ∷ 0 ∷ 3 ∷ 0 ∷ blank 32) 8 0 ∷
    in_assignment (33 ∷ 0 ∷ 3 ∷ 0 ∷ blank 33) 3 0 ∷
    in_assignment (two 0 1 ++ two 0 2 ++ end) 8 0 ∷
    in_assignment (one 0 ++ one 0 ++ end) 8 5 ∷
    in_assignment (one 0 ++ end) 8 5 ∷
    in_assignment (one 0 ++ two 0 2 ++ one 0 ++ end) 8 11 ∷
    -- an offset at the cycle and one below it, in first and in second place; two that are equal, that fall, that rise by one
    in_assignment (one 4 ++ two 0 2 ++ end) 8 0 ∷
    done (check P (one 3 ++ two 1 3 ++ end)) ∷
    in_assignment (one 0 ++ two 0 6 ++ end) 8 5 ∷
    clashing P (one 0 ++ two 0 5 ++ end) 0 1 5 1 ∷
    in_assignment (one 0 ++ two 2 2 ++ end) 8 5 ∷
    in_assignment (one 0 ++ two 2 0 ++ end) 8 5 ∷
    clashing P (one 0 ++ two 2 3 ++ end) 0 1 9 1 ∷
    -- a line's length, 7 and 9; its router; its period, 0, 1, 32 (read, and then it serves in part), 33; its slot, below the period and at
    -- it; its spare byte
    in_table (set line0 0 7 ++ end) 3 0 ∷
    in_table (set line0 0 9 ++ end) 3 0 ∷
    in_table (set line0 4 3 ++ end) 9 0 ∷
    in_table (set line0 5 0 ++ end) 9 0 ∷
    done (verify P slots_p (set line0 5 1 ++ drop 12 (table_p 4) ++ end)) ∷
    case (verify P slots_p (set line0 5 32 ++ end)) (telling 14 0 0 0 0) [] ∷
    in_table (set line0 5 33 ++ end) 9 0 ∷
    case (verify P slots_p (set line0 6 3 ++ end)) (telling 13 0 0 0 65535) [] ∷
    in_table (set line0 6 4 ++ end) 9 0 ∷
    in_table (set line0 7 1 ++ end) 9 0 ∷
    -- its in: a buffer that does not lead here, an unknown one, one by the high byte; its out: a buffer of another router, an unknown one, one by
    -- the high byte
    in_table (from_buffer 1 4 1 1 1 ++ end) 9 0 ∷
    in_table (from_buffer 0 4 0 3 0 ++ end) 9 0 ∷
    in_table (set line1 9 1 ++ end) 9 0 ∷
    in_table (set line0 8 254 ++ end) 9 0 ∷
    in_table (from_local 0 4 0 1 ++ end) 9 0 ∷
    in_table (from_local 0 4 0 3 ++ end) 9 0 ∷
    in_table (set line0 11 1 ++ end) 9 0 ∷
    -- a clash in the last slot of the common cycle of 3 and 4
    clashing narrow (one 2 ++ one 3 ++ end) 0 1 11 0 ∷
    -- a line of another inport does not meet a series; one of period 8 meets it in some of its slots, though not in the first
    case (verify P slots_p (line0 ++ from_local 1 4 1 1 ++ end)) (telling 13 0 0 1 65535) [] ∷
    case (verify P slots_p (line0 ++ from_buffer 1 8 5 0 1 ++ end)) (telling 14 0 0 1 1) [] ∷
    -- a circuit is held against each that was before it
    case (allot (with_p (over1 2 0 ++ over1 2 1 ++ over1 2 1)) 6 (blank 19)) (telling 0 6 19 0 0) (one 0 ++ one 0 ++ one 1 ++ end) ∷
    -- the budget: just enough to find that there is no room, and one too few
    case (allot narrow 17 (blank 14)) (telling 10 17 0 0 0) (blank 14) ∷
    case (allot narrow 16 (blank 14)) (telling 11 16 0 0 0) (blank 14) ∷
    -- the area: just enough, and one too few
    case (allot P 10 (blank 15)) (telling 0 10 15 0 0) slots_p ∷
    case (allot P 10 (blank 14)) (telling 17 15 0 0 0) (blank 14) ∷
    case (make P slots_p (blank 52)) (telling 0 52 0 0 0) (table_p 4 ++ end) ∷
    case (make P slots_p (blank 51)) (telling 17 52 0 0 0) (blank 51) ∷
    []

pub all_bounds : map (λ c. run c.call) bounds ≡ map (λ c. c.expected) bounds
unfolding read_request allocate check_assignment make_tables check_tables assignment_bytes table_bytes assignment_size request_walk request assignment_walk assignment table_walk table cells barred search clash_of whole reply meets? serves? series line_for lines_for one_line part_line two_line series_fault lines_fault holds? meet? offsets_clash? clashes? what_in slot_of booking pair_clash clash_fault inport after hop_use uses send record_of over ◌and◌ neg least up_to any joined sum given ◌else◌ first or_else gcd
all_bounds = refl

-- ---- records behind many others: the step of record number n at a byte, with what it comes to

-- the record of circuit number n at byte 14, and what stands as line number n
abbrev circuit : List ℕ → ℕ → Step
circuit s n = request_step s n 14

abbrev line : List ℕ → ℕ → Step
line s n = table_step (request P).network s n 0

abbrev pub steps : List (Step × Step)
steps =
    -- 32 circuits, and then only the end; 4,096 lines, and then only the end
    (circuit P 31, next_at 26) ∷
    (circuit P 32, refused Count 14) ∷
    (circuit (take 14 P ++ end) 32, ended) ∷
    (line line0 4095, next_at 12) ∷
    (line line0 4096, refused Count 0) ∷
    (line end 4096, ended) ∷
    -- kind 2, then the 33rd circuit or 4,097th line 4, then the possible length 3
    (circuit (set P 16 7) 32, refused Kind 14) ∷
    (circuit (set P 14 4) 32, refused Count 14) ∷
    (line (set line0 2 7) 4096, refused Kind 0) ∷
    (line (set line0 0 7) 4096, refused Count 0) ∷
    []

pub all_steps : map (λ s. s.0) steps ≡ map (λ s. s.1) steps
unfolding request_step request_walk request table_step up_to ◌and◌ neg least any
all_steps = refl

-- ---- numbers that no file shows

-- the latest slot of a first clash: circuits of cycles 31 and 32 on one resource, with offsets 30 and 31, first hold it together in that slot
abbrev holder : ℕ → ℕ → Booking
holder cycle offset = record { cycle = cycle; uses = record { what = 0; after = 0 } ∷ []; offsets = offset ∷ [] }

pub slot_reached : least (suc slot_most) (λ t. both? (holder 31 30) (holder 32 31) t 0) ≡ slot_most
unfolding holds? least ◌and◌ any
slot_reached = refl

-- a number of two bytes, and of four
pub ends : (word_end ≡ 256 * 256) × (detail_end ≡ 256 * 256 * 256 * 256)
ends = (refl, refl)
