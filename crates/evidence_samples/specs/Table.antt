-- Samples 1 to 11 and 13 to 15 of SPECIFICATION 13, as one table: a row is the sample's number and a test to compute.
-- The tests are about what the calls' contracts name: what each call answers and leaves in slices that held other
-- values. Indices from 0, doubles by their bits.
use Rattle.std.specs.Prelude.{Bool, true, false, ◌&&◌, List, [], ◌∷◌, ◌++◌, map, ℕ, zero, suc, ◌+◌, ◌-◌}
use Rattle.std.specs.Prelude.{◌*◌, eqb, Float, ℤ, pos, negsuc, Result, Ok, Err, get_or, replicate}
use Prim.Native.String.{String}
use Rattle.std.specs.Float.{nan, binary64}
use Rattle.std.specs.Float.Ieee.{of_bits, to_bits}
use Rattle.limits.specs.Limits.{none}
use Rattle.refusal.specs.Refusal.{accepted, cost_range}
use Rattle.refusal.specs.Number.{fault_of}
use Rattle.slices.specs.Outcome.{Outcome}
use Rattle.matching.specs.Match.{match_of as handed}
use Rattle.hungarian.specs.declared.Counts.{Counts}
use Rattle.byte_numbers.specs.Bytes as Bytes
use Rattle.byte_numbers.specs.Root.{root_bytes, root_number}
use Rattle.whole_log.specs.Log.{whole_log}
use Rattle.hungarian.specs.Graph.{CostGraph, graph_of}
use Rattle.hungarian_match.specs.Call as Match
use Rattle.hungarian_match.specs.Call.{match_outcome, counts_left}
use Rattle.sparse.specs.Matrix.{Matrix, matrix}
use Rattle.mc64_columns.specs.Graphs as Graphs
use Rattle.mc64_symmetric.specs.Call.{cost_graph}
use Rattle.mc64_general.specs.Call.{general_graph}
use Rattle.whole_graphs.specs.Graphs.{graph_left}
use Rattle.infnorm.specs.Call.{compute_infnorm, compute_onepass}
use Rattle.factors_mc64.specs.Factors.{argument}
use Rattle.factors_mc64.specs.declared.Scaled.{Scaled}
use Rattle.factors_mc64.specs.declared.Scaled.TheVariants as scaled
use Rattle.factors_mc64.specs.Calls.{slices, symmetric_outcome, Slices}
use Rattle.text_matrix_market.specs.Banner.{codes}
use Rattle.text_report.specs.declared.Form.{Form}
use Rattle.text_report.specs.declared.Form.TheVariants.{Report, Pairs}
use Rattle.text_answer.specs.Answer.{answer_text}

-- ---- tests
unfoldable pub same : List ℕ → List ℕ → Bool
same [] [] = true
same [] (b ∷ r) = false
same (a ∷ l) [] = false
same (a ∷ l) (b ∷ r) = eqb a b && same l r

-- the bits of doubles
abbrev pub bits : List Float → List ℕ
bits = map (to_bits binary64)

-- ---- a match
-- what is lent for the match of n columns
abbrev pub pairs_lent : ℕ → Match.Slices
pairs_lent n =
    Match.slices (replicate n 1) (replicate n nan) (replicate n nan) (replicate (12 * n + 1) 1) (replicate (2 * n) nan)

-- what the match does with a graph
abbrev pub match_of : CostGraph → Outcome (Result Counts ℕ) Match.Slices
match_of g = match_outcome g (pairs_lent g.pattern.n)

-- the number answered, and the count of pairs
abbrev pub match_number : CostGraph → ℕ
match_number g = fault_of (match_of g).answer

abbrev pub pair_count : Outcome (Result Counts ℕ) Match.Slices → ℕ
pair_count found = get_or (counts_left found.answer []) 0 0

-- an accepted graph whose match has these rows, duals, count of pairs and counts, with zero work
unfoldable pub match_is : CostGraph → List ℕ → List ℕ → List ℕ → ℕ → List ℕ → Bool
unfolding same
match_is g perm u v matched counts =
    let found = match_of g in
    eqb (match_number g) accepted
    && same found.after.perm perm
    && same (bits found.after.u) u
    && same (bits found.after.v) v
    && same (counts_left found.answer []) (matched ∷ counts)
    && same found.after.work (replicate (12 * g.pattern.n + 1) 0)
    && same (bits found.after.fwork) (replicate (2 * g.pattern.n) 0)

-- ---- roots and logarithms
-- a root with these bits, as eight bytes
unfoldable pub root_is : Float → ℕ → Bool
unfolding same
root_is x root =
    eqb (root_number x (replicate 8 1)) accepted && same (root_bytes x (replicate 8 1)) (Bytes.bytes_of 8 root)

-- the double with these bits has this logarithm
unfoldable pub log_is : ℕ → ℤ → Bool
log_is x p = answer (whole_log (of_bits binary64 x)) p
  where
    answer : Result ℤ ℕ → ℤ → Bool
    answer (Ok (pos a)) (pos b) = eqb a b
    answer (Ok (pos a)) (negsuc b) = false
    answer (Ok (negsuc a)) (pos b) = false
    answer (Ok (negsuc a)) (negsuc b) = eqb a b
    answer (Err fault) p = false

-- ---- factors
-- what `log_factors` does with the match of n columns and their largest logs
abbrev pub factors_of : ℕ → Outcome (Result Counts ℕ) Match.Slices → List Float → Outcome (Result Scaled ℕ) Slices
factors_of n found cmax =
    symmetric_outcome n (pair_count found) (handed found.after.perm found.after.u found.after.v cmax)
    (slices (replicate n nan) (replicate n 1))

-- the answer if that many columns are unmatched
abbrev pub scaled_is : ℕ → Result Scaled ℕ → Bool
scaled_is unmatched (Err fault) = false
scaled_is zero (Ok scaled.Applied) = true
scaled_is zero (Ok (scaled.PartialSingular count)) = false
scaled_is (suc k) (Ok scaled.Applied) = false
scaled_is (suc k) (Ok (scaled.PartialSingular count)) = eqb count (suc k)

-- what is lent for a graph of n columns: room for its entries, and the number of stored entries of the matrix
abbrev pub graph_lent : (n room stored : ℕ) → Graphs.Slices
graph_lent n room stored =
    Graphs.slices (replicate (n + 1) 1) (replicate room 1) (replicate room nan) (replicate n nan)
    (replicate (2 * n + 2 + stored) 1)

-- the matrix of one entry with this value
abbrev pub one : ℕ → Matrix
one value = matrix 1 (0 ∷ 1 ∷ []) (0 ∷ []) (of_bits binary64 value ∷ [])

-- the symmetric matrix of one entry with this value and log, and its graph, are accepted. They have this largest log
-- and this factor before it is held; `log_factors` leaves this factor, zero work and the answer for that many unmatched
-- columns. Only whether the value is zero matters
unfoldable pub symmetric_is : (value log cmax unheld factor unmatched : ℕ) → Bool
unfolding same
symmetric_is value log cmax unheld factor unmatched =
    let built = cost_graph (one value) (of_bits binary64 log ∷ []) (graph_lent 1 2 1) in
    let g = graph_left 1 built.after in
    let found = match_of g in
    let largest = built.after.cmax in
    let call = factors_of 1 found largest in
    eqb (fault_of built.answer) accepted
    && eqb (match_number g) accepted
    && same (bits largest) (cmax ∷ [])
    && same (bits (argument (get_or found.after.u 0 nan) (get_or found.after.v 0 nan) (get_or largest 0 nan) ∷ []))
    (unheld ∷ [])
    && same (bits call.after.factors) (factor ∷ [])
    && same call.after.work (0 ∷ [])
    && scaled_is unmatched call.answer

-- the general matrix of one entry likewise: its largest log and the count of unmatched columns
unfoldable pub general_is : (value log cmax unmatched : ℕ) → Bool
unfolding same
general_is value log cmax unmatched =
    let built = general_graph (one value) (of_bits binary64 log ∷ []) (graph_lent 1 1 1) in
    let g = graph_left 1 built.after in
    eqb (fault_of built.answer) accepted
    && eqb (match_number g) accepted
    && same (bits built.after.cmax) (cmax ∷ [])
    && eqb (1 - pair_count (match_of g)) unmatched

-- the symmetric matrix of n columns is accepted by both inf-norm calls, which leave these factors; the iterated one
-- leaves zero work
unfoldable pub infnorm_is : Matrix → (iterated onepass : List ℕ) → Bool
unfolding same
infnorm_is m iterated onepass =
    let first = compute_infnorm m (replicate m.pattern.n nan) (replicate m.pattern.n nan) in
    let second = compute_onepass m (replicate m.pattern.n nan) in
    eqb first.answer accepted
    && same (bits first.after.factors) iterated
    && same (bits first.after.work) (replicate m.pattern.n 0)
    && eqb second.answer accepted
    && same (bits second.after) onepass

-- ---- printed texts
-- the bytes of lines, each with its line feed
unfoldable pub bytes_of : List String → List ℕ
bytes_of [] = []
bytes_of (line ∷ lines) = codes line ++ 10 ∷ bytes_of lines

-- the program of a form prints these lines of an input of these lines
unfoldable pub printed : Form → (input output : List String) → Bool
unfolding same bytes_of
printed form input output = same (answer_text form (bytes_of input)) (bytes_of output)

-- ---- the samples
-- the doubles of small whole numbers
abbrev f0 : ℕ
f0 = 0

abbrev f1 : ℕ
f1 = 0x3FF0_0000_0000_0000

abbrev f2 : ℕ
f2 = 0x4000_0000_0000_0000

abbrev f3 : ℕ
f3 = 0x4008_0000_0000_0000

abbrev f5 : ℕ
f5 = 0x4014_0000_0000_0000

abbrev f709 : ℕ
f709 = 0x4086_2800_0000_0000

abbrev infinity : ℕ
infinity = 0x7FF0_0000_0000_0000

abbrev minus_infinity : ℕ
minus_infinity = 0xFFF0_0000_0000_0000

abbrev pub graph : ℕ → List ℕ → List ℕ → List ℕ → CostGraph
graph n col_ptr rows costs = graph_of n col_ptr rows (map (of_bits binary64) costs)

-- a graph of n columns with one entry, in the first column, of this cost
abbrev pub single : (n cost : ℕ) → CostGraph
single n cost = graph n (0 ∷ replicate n 1) (0 ∷ []) (cost ∷ [])

-- n = 4,096, the most columns: cost 2^36 refused with 8, 2^36 - 1 taken
unfoldable pub most_columns : Bool
most_columns =
    eqb (match_number (single 4096 0x4230_0000_0000_0000)) cost_range
    && eqb (match_number (single 4096 0x422F_FFFF_FFFE_0000)) accepted

pub record Sample : Type 0 where
  pub number : ℕ
  pub holds : Bool

abbrev sample : ℕ → Bool → Sample
sample number holds = record { number = number; holds = holds }

-- the graph of no column, and those of two columns with two entries each
abbrev empty : CostGraph
empty = graph 0 (0 ∷ []) [] []

abbrev full : List ℕ → CostGraph
full costs = graph 2 (0 ∷ 2 ∷ 4 ∷ []) (0 ∷ 1 ∷ 0 ∷ 1 ∷ []) costs

-- a symmetric matrix whose iterated factors differ from the one-pass ones
abbrev apart : Matrix
apart =
    matrix 2 (0 ∷ 2 ∷ 3 ∷ []) (0 ∷ 1 ∷ 1 ∷ [])
    (map (of_bits binary64) (0x4030_0000_0000_0000 ∷ f1 ∷ 0x3FD0_0000_0000_0000 ∷ []))

abbrev reel : List String
reel =
    "%%MatrixMarket matrix coordinate integer general"
    ∷ "% reel 4" ∷ "3 3 8" ∷ "1 1 1" ∷ "2 1 3" ∷ "1 2 1" ∷ "2 2 2" ∷ "3 2 5" ∷ "1 3 0" ∷ "2 3 0" ∷ "3 3 0" ∷ []

-- a symmetric file, and the pairs of its match
abbrev mirrored : List String
mirrored = "%%MatrixMarket matrix coordinate integer symmetric" ∷ "3 3 3" ∷ "2 1 -8" ∷ "3 2 1024" ∷ "3 1 3" ∷ []

abbrev mirrored_pairs : List String
mirrored_pairs = "%%MatrixMarket matrix coordinate pattern general" ∷ "3 3 3" ∷ "3 1" ∷ "1 2" ∷ "2 3" ∷ []

-- all rows but that of 4,096 columns, which is proved by a law, not by walking its columns
unfoldable pub rows : List Sample
unfolding match_is printed symmetric_is general_is infnorm_is root_is log_is
rows =
    sample 1
    (match_is empty [] [] [] 0 (0 ∷ 0 ∷ 0 ∷ 0 ∷ 0 ∷ 0 ∷ 0 ∷ [])
    && scaled_is 0 (factors_of 0 (match_of empty) []).answer)
    -- the printed text
    ∷ sample 2
    (printed Report reel ("matched 3 of 3" ∷ "1 1 -1 2" ∷ "2 2 0 2" ∷ "3 3 0 0" ∷ "counts 5 1 2 3 8 2 2" ∷ []))
    ∷ sample 3
    (match_is (full (f0 ∷ f5 ∷ f0 ∷ f1 ∷ [])) (0 ∷ 1 ∷ []) (f0 ∷ f1 ∷ []) (f0 ∷ f0 ∷ [])
    2 (0 ∷ 0 ∷ 0 ∷ 2 ∷ 0 ∷ 0 ∷ 0 ∷ []))
    ∷ sample 4
    (match_is (full (f0 ∷ f3 ∷ f0 ∷ f5 ∷ [])) (1 ∷ 0 ∷ []) (f0 ∷ f3 ∷ []) (f0 ∷ f0 ∷ [])
    2 (0 ∷ 0 ∷ 0 ∷ 0 ∷ 0 ∷ 0 ∷ 0 ∷ []))
    ∷ sample 5
    (match_is (graph 2 (0 ∷ 1 ∷ 2 ∷ []) (0 ∷ 0 ∷ []) (f1 ∷ f2 ∷ []))
    (0 ∷ none ∷ []) (f1 ∷ f0 ∷ []) (f0 ∷ f0 ∷ []) 1 (3 ∷ 1 ∷ 1 ∷ 1 ∷ 2 ∷ 1 ∷ 1 ∷ []))
    -- log 3 gives -1.5
    ∷ sample 6
    (symmetric_is f1 f3 f3 0xBFF8_0000_0000_0000 0xBFF8_0000_0000_0000 0)
    -- value 0
    ∷ sample 7
    (symmetric_is f0 minus_infinity minus_infinity infinity f0 1 && general_is f0 minus_infinity f0 1)
    -- log -1418 gives 709 unheld, -1420 gives 710, which is held to 709
    ∷ sample 8
    (symmetric_is f1 0xC096_2800_0000_0000 0xC096_2800_0000_0000 f709 f709 0
    && symmetric_is f1 0xC096_3000_0000_0000 0xC096_3000_0000_0000 0x4086_3000_0000_0000 f709 0)
    -- n = 1: cost 2^48 refused with 8, 2^48 - 1 taken; n = 3: on both sides of 2^48 / 3
    ∷ sample 9
    (eqb (match_number (single 1 0x42F0_0000_0000_0000)) cost_range
    && eqb (match_number (single 1 0x42EF_FFFF_FFFF_FFE0)) accepted
    && eqb (match_number (single 3 0x42D5_5555_5555_5556)) cost_range
    && eqb (match_number (single 3 0x42D5_5555_5555_5555)) accepted)
    -- root of 2; root of 2^-1074 is 2^-537
    ∷ sample 10
    (root_is (of_bits binary64 f2) 0x3FF6_A09E_667F_3BCD && root_is (of_bits binary64 1) 0x1E60_0000_0000_0000)
    -- value 4 gives 0.5
    ∷ sample 11
    (infnorm_is (one 0x4010_0000_0000_0000) (0x3FE0_0000_0000_0000 ∷ []) (0x3FE0_0000_0000_0000 ∷ []))
    -- p of 1, 2, 0.5, 3, -10, 2^-1074 and the largest double; negsuc n is -(n + 1)
    ∷ sample 13
    (log_is f1 (pos 0)
    && log_is f2 (pos 65536)
    && log_is 0x3FE0_0000_0000_0000 (negsuc 65535)
    && log_is 0x4008_0000_0000_0000 (pos 103872)
    && log_is 0xC024_0000_0000_0000 (pos 217705)
    && log_is 1 (negsuc 70385663)
    && log_is 0x7FEF_FFFF_FFFF_FFFF (pos 67108863))
    -- the report, the pairs, and what is printed of these
    ∷ sample 14
    (printed Report mirrored
    ("matched 3 of 3" ∷ "1 3 458752 92736" ∷ "2 1 -92736 0" ∷ "3 2 0 92736" ∷ "counts 4 1 1 2 4 1 1" ∷ [])
    && printed Pairs mirrored mirrored_pairs
    && printed Pairs mirrored_pairs mirrored_pairs)
    -- values 16 and 1 in column 0, 0.25 in column 1: iterated 0.25 and 2, one-pass 0.25 and 1
    ∷ sample 15
    (infnorm_is apart (0x3FD0_0000_0000_0000 ∷ f2 ∷ []) (0x3FD0_0000_0000_0000 ∷ f1 ∷ []))
    ∷ []

unfoldable pub table : List Sample
table = sample 9 most_columns ∷ rows

-- every row holds
unfoldable pub all_hold : List Sample → Bool
all_hold [] = true
all_hold (s ∷ ss) = s.holds && all_hold ss
