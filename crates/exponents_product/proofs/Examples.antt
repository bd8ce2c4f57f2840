-- Small matrices by computing: a match whose product is less than the largest by more than 2 ^ (n / 65536), so that half of the bound would not be
-- enough (`even_far`); a symmetric matrix whose largest product takes an entry and its mirror (`triangle_matched`).
use Rattle.std.proofs.Common.{Result}
use mathlib.Core.Path.{◌≡◌, refl, sym, ap, ◌∙◌}
use mathlib.Core.List.{List, [], ◌∷◌, map}
use Prim.Native.Nat.{ℕ, ◌*◌, ◌^◌, ◌≤◌, ◌<◌}
use native.Mathlib.Nat.{mul_assoc, mul_comm, mul_left_comm, le_of_eq, le_trans, lt_of_le_of_lt, lt_of_lt_of_le, one-le-pow, pow-le-pow_left}
use native.Mathlib.Nat.{mul-lt-mul_of_pos_right, mul-le-mul_left, lt_of_mul-lt-mul_right}
use native.Mathlib.Omega.{arith}
use borrow.Author.Tests.{leb-true, ltb-true}
use lib.Ieee.{Float, nan, binary64, of_int, of_bits, add, sub, neg, lt, le, eq, ne}
use lib.ListN.{get_or, replicate}
use Rattle.refusal.specs.Refusal.{accepted}
use Rattle.refusal.specs.Number.{fault_of}
use Rattle.slices.specs.Outcome.{Outcome}
use Rattle.float64.specs.Number.{magnitude, units_per_one}
use Rattle.sparse.specs.Fault.{first_of}
use Rattle.sparse.specs.Matrix.{Matrix, matrix}
use Rattle.sparse.specs.Validate.{size_fault, pointer_fault, frame_fault, general_fault, general_columns, general_column}
use Rattle.sparse.specs.Validate.{symmetric_fault, symmetric_columns, lower_column, rising_column}
use Rattle.matching.specs.Sum.{sum_to}
use Rattle.sparse.specs.Pattern.{column_of}
use Rattle.hungarian.specs.Test.{graph_fault, cost_fault}
use Rattle.hungarian.specs.Match.{hungarian_match}
use Rattle.hungarian_match.specs.Call as Match
use Rattle.hungarian.specs.declared.Counts.{Counts}
use Rattle.cost_limit.specs.Range.{in_range}
use Rattle.whole_log.specs.Log.{whole_log}
use Rattle.mc64_columns.specs.Columns.{largest, largest_from, normalised}
use Rattle.mc64_columns.specs.Graphs as Graphs
use Rattle.mc64_general.specs.Graph.{is_kept, kept_places, largest_log}
use Rattle.mc64_symmetric.specs.Graph.{places_to}
use Rattle.whole_graphs.specs.Graphs.{finite_fault, general_input_fault, symmetric_input_fault, whole_general_graph, whole_symmetric_graph, graph_left}
use Rattle.exponents.proofs.Bounds.{product_power, power_power}
use Rattle.exponents_product.specs.Product.{size_by, general_size, symmetric_size, product_to, product_of, rows_of}

abbrev zeros : ℕ → List ℕ
zeros n = replicate n 0

abbrev blanks : ℕ → List Float
blanks n = replicate n nan

-- ---- two columns, two sizes in each, that have the same logarithm. The bits of a double this small are its size
unfoldable pub lesser : ℕ
lesser = 174534472

unfoldable pub greater : ℕ
greater = 174536318

abbrev even : Matrix
even = matrix 2 (0 ∷ 2 ∷ 4 ∷ []) (0 ∷ 1 ∷ 0 ∷ 1 ∷ []) (map (of_bits binary64) (174536318 ∷ 174534472 ∷ 174534472 ∷ 174536318 ∷ []))

abbrev even_builds : Outcome (Result ℕ ℕ) Graphs.Slices
even_builds = whole_general_graph even (Graphs.slices (zeros 3) (zeros 4) (blanks 4) (blanks 2) (zeros 10))

abbrev even_matches : Outcome (Result Counts ℕ) Match.Slices
even_matches = Match.match_outcome (graph_left 2 even_builds.after) (Match.slices (zeros 2) (blanks 2) (blanks 2) (zeros 25) (blanks 4))

-- the match does not take the diagonal, whose product is larger
pub even_matched : (fault_of even_builds.answer ≡ accepted) × (fault_of even_matches.answer ≡ accepted)
    × (get_or (Match.counts_left even_matches.answer []) 0 0 ≡ 2) × (even_matches.after.perm ≡ 1 ∷ 0 ∷ [])
unfolding whole_general_graph general_input_fault finite_fault frame_fault general_fault Graphs.slices_fit Graphs.built Graphs.joined kept_places is_kept
    largest_log largest largest_from normalised whole_log Match.match_outcome Match.finished Match.match_lengths hungarian_match graph_fault
    cost_fault in_range size_fault pointer_fault first_of general_columns general_column magnitude units_per_one of_int of_bits lt le eq ne add sub neg column_of sum_to
even_matched = (refl, refl, refl, refl)

pub even_products : (product_of 2 (general_size even) (rows_of (1 ∷ 0 ∷ [])) ≡ lesser * lesser)
    × (product_of 2 (general_size even) (rows_of (0 ∷ 1 ∷ [])) ≡ greater * greater)
unfolding magnitude units_per_one of_bits column_of sum_to size_by product_to lesser greater
even_products = (refl, refl)

-- a power too large to compute, by its fourth root: (c / d) ^ N is above 2, and (b / a) ^ 4 at least c / d
apart : (N a b c d : ℕ) → 0 < a → c * a ^ 4 ≤ d * b ^ 4 → 2 * d ^ N < c ^ N → 2 * a ^ (4 * N) < b ^ (4 * N)
apart N a b c d some h l =
    let p : c ^ N * a ^ (4 * N) ≤ d ^ N * b ^ (4 * N) =
    le_trans (le_of_eq (sym (product_power c (a ^ 4) N ∙ ap (λ (x : ℕ). c ^ N * x) (power_power a 4 N))))
    (le_trans (pow-le-pow_left h N) (le_of_eq (product_power d (b ^ 4) N ∙ ap (λ (x : ℕ). d ^ N * x) (power_power b 4 N)))) in
    let q : 2 * d ^ N * a ^ (4 * N) < c ^ N * a ^ (4 * N) = mul-lt-mul_of_pos_right l (one-le-pow (4 * N) a some) in
    let e : 2 * a ^ (4 * N) * d ^ N ≡ 2 * d ^ N * a ^ (4 * N) =
    mul_assoc 2 (a ^ (4 * N)) (d ^ N) ∙ ap (λ (x : ℕ). 2 * x) (mul_comm (a ^ (4 * N)) (d ^ N)) ∙ sym (mul_assoc 2 (d ^ N) (a ^ (4 * N))) in
    lt_of_mul-lt-mul_right (d ^ N) (lt_of_le_of_lt (le_of_eq e) (lt_of_lt_of_le q (le_trans p (le_of_eq (mul_comm (d ^ N) (b ^ (4 * N)))))))

-- the squares of a number and of one below its half
squares : (x y : ℕ) → 2 * x < y → 2 ^ 2 * (x * x) < y * y
squares x y h =
    let e : 2 ^ 2 * (x * x) ≡ 2 * x * (2 * x) = mul_assoc 2 2 (x * x) ∙ ap (λ (z : ℕ). 2 * z) (sym (mul_assoc 2 x x)) ∙ mul_left_comm 2 (2 * x) x in
    let l : 2 * x ≤ y = omega arith in
    let s : 0 < y = omega arith in
    lt_of_le_of_lt (le_trans (le_of_eq e) (mul-le-mul_left (2 * x) l)) (mul-lt-mul_of_pos_right h s)

even_apart : 2 * lesser ^ 65536 < greater ^ 65536
unfolding lesser greater
even_apart = apart 16384 lesser greater 47275 47273 (omega arith) (leb-true _ _ refl) (ltb-true _ _ refl)

-- with 2 ^ n in the place of 2 ^ (2 * n) the bound is false of it
pub even_far : 2 ^ 2 * product_of 2 (general_size even) (rows_of (1 ∷ 0 ∷ [])) ^ 65536 < product_of 2 (general_size even) (rows_of (0 ∷ 1 ∷ [])) ^ 65536
even_far =
    rw (even_products.0, even_products.1, product_power lesser lesser 65536, product_power greater greater 65536)
    (squares (lesser ^ 65536) (greater ^ 65536) even_apart)

-- ---- a symmetric matrix of two columns: 3 and 1 in the first, whose mirror is 1 in the second, which has no other
abbrev triangle : Matrix
triangle = matrix 2 (0 ∷ 2 ∷ 2 ∷ []) (0 ∷ 1 ∷ []) (map (of_bits binary64) (0x4008_0000_0000_0000 ∷ 0x3FF0_0000_0000_0000 ∷ []))

abbrev triangle_builds : Outcome (Result ℕ ℕ) Graphs.Slices
triangle_builds = whole_symmetric_graph triangle (Graphs.slices (zeros 3) (zeros 4) (blanks 4) (blanks 2) (zeros 8))

abbrev triangle_matches : Outcome (Result Counts ℕ) Match.Slices
triangle_matches = Match.match_outcome (graph_left 2 triangle_builds.after) (Match.slices (zeros 2) (blanks 2) (blanks 2) (zeros 25) (blanks 4))

-- the 1 at row 1 and column 0 is at row 0 and column 1 too, and has its size at both; the diagonal has 3 and nothing
pub triangle_matched : (fault_of triangle_builds.answer ≡ accepted) × (fault_of triangle_matches.answer ≡ accepted)
    × (get_or (Match.counts_left triangle_matches.answer []) 0 0 ≡ 2) × (triangle_matches.after.perm ≡ 1 ∷ 0 ∷ [])
    × (product_of 2 (symmetric_size triangle) (rows_of (1 ∷ 0 ∷ [])) ≡ 2 ^ 1074 * 2 ^ 1074) × (product_of 2 (symmetric_size triangle) (rows_of (0 ∷ 1 ∷ [])) ≡ 0)
unfolding whole_symmetric_graph symmetric_input_fault finite_fault frame_fault symmetric_fault symmetric_columns lower_column rising_column Graphs.slices_fit
    Graphs.built Graphs.joined places_to column_of sum_to largest largest_from normalised whole_log Match.match_outcome Match.finished
    Match.match_lengths hungarian_match graph_fault cost_fault in_range size_fault pointer_fault first_of general_columns general_column magnitude
    units_per_one of_int of_bits lt le eq ne add sub neg size_by product_to
triangle_matched = (refl, refl, refl, refl, refl, refl)
