-- SPECIFICATION 11.2 and 11.3: The file that an input holds, or the number of its refusal. Lines are read from the top,
-- as the banner's kind requires.
use Rattle.std.specs.Prelude.{Bool, false, cond, ◌&&◌, ◌||◌, Option, Some, None, Result, Ok, Err, List, [], ◌∷◌, ◌++◌}
use Rattle.std.specs.Prelude.{map, ℕ, ◌-◌, ◌*◌, ◌^◌, eqb, leb, ltb, length}
use Rattle.refusal.specs.Refusal as number
use Rattle.refusal.specs.Refusal.{size_line, input_limit, entry_line, entry_count, repeated_pair, upper_entry}
use Rattle.text_matrix_market.specs.declared.banner.Kind.{Kind}
use Rattle.text_matrix_market.specs.declared.banner.Kind.TheVariants.{General, Symmetric, Pattern}
use Rattle.text_matrix_market.specs.declared.stages.Entry.{Entry}
use Rattle.text_matrix_market.specs.Text.{lines_of, is_blank_line, begins_percent}
use Rattle.text_matrix_market.specs.Numbers.{numbers_of}
use Rattle.text_matrix_market.specs.Banner.{banner_kind}

-- ---- limits: bytes of an input and of a line, N, L
abbrev pub max_input : ℕ
max_input = 32768

abbrev pub max_line : ℕ
max_line = 1024

abbrev pub max_order : ℕ
max_order = 64

abbrev pub max_entries : ℕ
max_entries = 512

-- ---- an entry line: row and column count from 1 there, from 0 in the entry
-- an index in 1..N
abbrev pub is_within : ℕ → ℕ → Bool
is_within n index = leb 1 index && leb index n

-- a cost in range: n times it is below 2 ^ 48
abbrev pub cost_fits : ℕ → ℕ → Bool
cost_fits n cost = ltb (n * cost) (2 ^ 48)

-- a weight in range: a cost, or the size of a value below 2 ^ 53, so that a double stands for it
abbrev pub weight_fits : Kind → ℕ → ℕ → Bool
weight_fits General n weight = cost_fits n weight
weight_fits Symmetric n weight = ltb weight (2 ^ 53)
weight_fits Pattern n weight = cost_fits n weight

-- an entry that its kind does not store: one above the diagonal
abbrev pub is_upper : Kind → ℕ → ℕ → Bool
is_upper General row column = false
is_upper Symmetric row column = ltb row column
is_upper Pattern row column = false

-- the entry of three numbers
abbrev pub zero_based : ℕ → ℕ → ℕ → Entry
zero_based row column weight = record { row = row - 1; column = column - 1; weight = weight }

-- 23 if there is none, then 26
abbrev pub entry_from : Kind → ℕ → Option (ℕ × ℕ × ℕ) → Result Entry ℕ
entry_from kind n None = Err entry_line
entry_from kind n (Some (row, column, weight)) =
    cond (is_within n row && (is_within n column && weight_fits kind n weight))
    (cond (is_upper kind row column) (Err upper_entry) (Ok (zero_based row column weight)))
    (Err entry_line)

-- the entry of a line, or its refusal
unfoldable pub line_entry : Kind → ℕ → List ℕ → Result Entry ℕ
line_entry kind n line = entry_from kind n (numbers_of kind line)

-- ---- how far the reading has come
pub data State : Type 0 where
  -- before the banner
  start : State
  -- before the size line
  sizing : Kind → State
  -- below it: N, L, and the entries so far
  entering : Kind → ℕ → ℕ → List Entry → State
  refused : ℕ → State

-- the banner
abbrev pub begun : Option Kind → State
begun (Some kind) = sizing kind
begun None = refused number.banner

-- the size line: M = N before the limits
abbrev pub sized : Kind → Option (ℕ × ℕ × ℕ) → State
sized kind None = refused size_line
sized kind (Some (m, n, count)) =
    cond (eqb m n) (cond (leb n max_order && leb count max_entries) (entering kind n count []) (refused input_limit))
    (refused size_line)

-- one entry more
abbrev pub entered : Kind → ℕ → ℕ → List Entry → Result Entry ℕ → State
entered kind n count entries (Err fault) = refused fault
entered kind n count entries (Ok e) = entering kind n count (entries ++ (e ∷ []))

-- what a line does, by what it says: an entry line after the L-th gives 24, whatever it says
unfoldable pub content : State → List ℕ → State
content start line = begun (banner_kind line)
content (sizing kind) line =
    cond (is_blank_line line || begins_percent line) (sizing kind) (sized kind (numbers_of General line))
content (entering kind n count entries) line =
    cond (is_blank_line line) (entering kind n count entries)
    (cond (ltb (length entries) count) (entered kind n count entries (line_entry kind n line)) (refused entry_count))
content (refused number) line = refused number

-- a line that is too long; a refusal stays
abbrev pub too_long : State → State
too_long start = refused input_limit
too_long (sizing kind) = refused input_limit
too_long (entering kind n count entries) = refused input_limit
too_long (refused number) = refused number

-- line length before content
unfoldable pub read_line : State → List ℕ → State
read_line state line = cond (leb (length line) max_line) (content state line) (too_long state)

-- lines from the top
unfoldable pub read_lines : State → List (List ℕ) → State
read_lines state [] = state
read_lines state (line ∷ lines) = read_lines (read_line state line) lines

-- ---- the result for an input
pub data Reading : Type 0 where
  -- its kind, n, and its entries in input order
  file : Kind → ℕ → List Entry → Reading
  refusal : ℕ → Reading

-- the end of the input
unfoldable pub reading_at_end : State → Reading
reading_at_end start = refusal number.banner
reading_at_end (sizing kind) = refusal size_line
reading_at_end (entering kind n count entries) =
    cond (eqb (length entries) count) (file kind n entries) (refusal entry_count)
reading_at_end (refused number) = refusal number

-- input length first; all refusals but the last
unfoldable pub reading_of : List ℕ → Reading
reading_of input = cond (leb (length input) max_input) (reading_at_end (read_lines start (lines_of input)))
    (refusal input_limit)

-- ---- a pair (row, column) repeated, which is tested last
-- what each of the three lists holds for an entry
abbrev pub entry_row : Entry → ℕ
entry_row e = e.row

abbrev pub entry_column : Entry → ℕ
entry_column e = e.column

abbrev pub entry_weight : Entry → ℕ
entry_weight e = e.weight

-- the pair (i, j) is among these
unfoldable pub pair_among : ℕ → ℕ → List ℕ → List ℕ → Bool
pair_among i j [] cols = false
pair_among i j (row ∷ rows) [] = false
pair_among i j (row ∷ rows) (col ∷ cols) = (eqb row i && eqb col j) || pair_among i j rows cols

-- some pair stands twice: the first among the rest, or one of the rest
unfoldable pub repeats : List ℕ → List ℕ → Bool
unfolding pair_among
repeats [] cols = false
repeats (row ∷ rows) [] = false
repeats (row ∷ rows) (col ∷ cols) = pair_among row col rows cols || repeats rows cols

-- two entries have the same pair
abbrev pub repeated : List Entry → Bool
repeated entries = repeats (map entry_row entries) (map entry_column entries)

-- 25 in place of a file with such entries
abbrev pub unrepeated : Reading → Reading
unrepeated (file kind n entries) = cond (repeated entries) (refusal repeated_pair) (file kind n entries)
unrepeated (refusal number) = refusal number

-- all that SPECIFICATION 11.3 says of an input
unfoldable pub file_of : List ℕ → Reading
file_of input = unrepeated (reading_of input)
