-- SPECIFICATION 3.4, the table of refusals: each number by a name, as src/lib.rt has it, and when it is answered.
-- docs/refusals.py makes the table of SPECIFICATION from this file and holds the other tables to it.
use Rattle.std.specs.Prelude.{ℕ}

abbrev pub accepted : ℕ
accepted = 0

-- n above its limit
abbrev pub too_many_columns : ℕ
too_many_columns = 1

-- more entries than the limit
abbrev pub too_many_entries : ℕ
too_many_entries = 2

-- a slice has another length than SPECIFICATION 3.3 and 12.1 say
abbrev pub slice_length : ℕ
slice_length = 3

-- pointer 0 is not 0, or the last pointer is not the entry count, or a pointer is less than the one before
abbrev pub column_pointers : ℕ
column_pointers = 4

-- an index at or above n; digits above 50; over the C interface also a choice above 4, and a rule above 1
abbrev pub index_range : ℕ
index_range = 5

-- symmetric only: row less than column
abbrev pub upper_triangle : ℕ
upper_triangle = 6

-- rows of a column not strictly rising
abbrev pub rows_not_rising : ℕ
rows_not_rising = 7

-- a cost, or the log of a kept entry, outside its range or NaN; in the check of a match also a cost that is not
-- whole, in the gap of a match one of more than 2^49 steps
abbrev pub cost_range : ℕ
cost_range = 8

-- symmetric cost graph, both cost graphs from whole-number logarithms, and that logarithm: a value that is not
-- finite; the logarithm of a zero
abbrev pub value_not_finite : ℕ
value_not_finite = 9

-- log factors and writing a sheet file: an entry of perm that is neither NONE nor below n; log factors: a matched
-- count above n; writing: a matched count that is not the number of rows in perm
abbrev pub matching_range : ℕ
matching_range = 10

-- square root of a NaN or of a number below zero
abbrev pub no_root : ℕ
no_root = 11

-- chooser only: the external choice
abbrev pub external_choice : ℕ
external_choice = 12

-- programs: the first line is not the banner of one of their kinds of file
abbrev pub banner : ℕ
banner = 20

-- programs: the size line is absent or misshapen, or not square
abbrev pub size_line : ℕ
size_line = 21

-- programs: input over 32,768 bytes, a line over 1,024 bytes, N over 64, L over 512
abbrev pub input_limit : ℕ
input_limit = 22

-- programs: a misshapen entry, an index outside 1..N, a cost whose product with N is not below 2^48, a symmetric
-- value not below 2^53 in size
abbrev pub entry_line : ℕ
entry_line = 23

-- programs: fewer or more entry lines than L
abbrev pub entry_count : ℕ
entry_count = 24

-- programs: a pair of row and column repeated
abbrev pub repeated_pair : ℕ
repeated_pair = 25

-- programs: an entry of a symmetric file above the diagonal
abbrev pub upper_entry : ℕ
upper_entry = 26

-- an entry of perm not below n, a row twice, or a pair without an entry in the pattern; in the check and the gap of a
-- match also a column without a row
abbrev pub incomplete_matching : ℕ
incomplete_matching = 30

-- check of a match: a dual that is not whole or above 2^50 in size, or a sum above a cost; gap of a match: a dual
-- that is not finite, or of more than 2^49 steps in size
abbrev pub infeasible_duals : ℕ
infeasible_duals = 31

-- check of a match: a pair whose sum is below its cost
abbrev pub loose_pair : ℕ
loose_pair = 32

-- check that a match is largest: a matching that is not
abbrev pub not_largest : ℕ
not_largest = 33

-- sheet file: cut short, or n above 4,096
abbrev pub sheet_cut : ℕ
sheet_cut = 40

-- sheet file: an unknown bit, or a patch or row not below n
abbrev pub sheet_index : ℕ
sheet_index = 41

-- sheet file: a patch given twice
abbrev pub patch_twice : ℕ
patch_twice = 42

-- exponents only: a factor that is not whole, or an exponent beyond 67,108,864 in magnitude
abbrev pub exponent_range : ℕ
exponent_range = 43

-- canonical sheet file: a patch that does not rise
abbrev pub patch_order : ℕ
patch_order = 44

-- canonical sheet file: an empty map, or a field equal to what its absence means
abbrev pub needless_field : ℕ
needless_field = 45

-- applied exponents only: a value other than zero that is not a normal number before or after scaling
abbrev pub value_not_normal : ℕ
value_not_normal = 46
