-- What the reader's functions answer and leave, by the definitions of the tie file.
use Rattle.std.specs.Prelude.{Bool, true, false, cond, not, Option, Some, None, Result, Ok, Err, List, [], ◌∷◌, ◌++◌}
use Rattle.std.specs.Prelude.{map, ℕ, zero, suc, ◌+◌, ◌-◌, ◌≤◌, leb, length, take, drop, get_or}
use Rattle.std.proofs.lemmas.List.Edits.{sets}
use Rattle.text_matrix_market.specs.declared.banner.Kind.{Kind}
use Rattle.text_matrix_market.specs.declared.banner.Kind.TheVariants as kind
use Rattle.text_matrix_market.specs.declared.stages.Entry.{Entry}
use Rattle.text_matrix_market.specs.declared.stages.Stage.{Stage}
use Rattle.text_matrix_market.specs.declared.stages.Stage.TheVariants as stage
use Rattle.text_matrix_market.specs.declared.File.{File}
use Rattle.text_matrix_market.specs.Text.{is_blank, is_line_feed, is_nil, lines_of, words_of}
use Rattle.text_matrix_market.specs.Numbers.{number_read, size_read}
use Rattle.text_matrix_market.specs.File.{max_input, State, start, sizing, entering, refused, read_line, entry_row}
use Rattle.text_matrix_market.specs.File.{Reading, file, refusal, entry_column, entry_weight}

-- ---- places in a list
-- how many bytes come before the first that passes the test
unfoldable pub up_to : (ℕ → Bool) → List ℕ → ℕ
up_to test [] = 0
up_to test (b ∷ bytes) = cond (test b) 0 (suc (up_to test bytes))

-- the first place from `from` on whose byte passes the test, or the end
unfoldable pub reach : (ℕ → Bool) → List ℕ → ℕ → ℕ
reach test bytes from = from + up_to test (drop from bytes)

-- a byte of a word
abbrev pub is_word_byte : ℕ → Bool
is_word_byte b = not (is_blank b)

-- where the line ends, the next word starts, this word ends
abbrev pub line_end : List ℕ → ℕ → ℕ
line_end input from = reach is_line_feed input from

abbrev pub word_start : List ℕ → ℕ → ℕ
word_start line from = reach is_word_byte line from

abbrev pub word_end : List ℕ → ℕ → ℕ
word_end line from = reach is_blank line from

-- ---- words from a place on
-- the next word
unfoldable pub next_word : List ℕ → ℕ → List ℕ
next_word line from = take (word_end line (word_start line from) - word_start line from) (drop (word_start line from) line)

-- the place past it
unfoldable pub word_past : List ℕ → ℕ → ℕ
word_past line from = word_end line (word_start line from)

-- the next word is a number
abbrev pub field_of : Option ℕ → ℕ → Option (ℕ × ℕ)
field_of None past = None
field_of (Some value) past = Some (value, past)

-- the weight after row and column, from a place on: a pattern has none
unfoldable pub weight_field : Kind → List ℕ → ℕ → Option (ℕ × ℕ)
weight_field kind.General line from = field_of (number_read (next_word line from)) (word_past line from)
weight_field kind.Symmetric line from = field_of (size_read (next_word line from)) (word_past line from)
weight_field kind.Pattern line from = Some (0, from)

-- a place was found, and no word begins from there on
abbrev pub nothing_past : Option ℕ → List ℕ → Bool
nothing_past None line = false
nothing_past (Some past) line = is_nil (words_of (drop past line))

-- ---- entries in three lists
pub record Lists : Type 0 where
  pub rows : List ℕ
  pub columns : List ℕ
  pub weights : List ℕ

abbrev pub lists : (rows columns weights : List ℕ) → Lists
lists rows columns weights = record { rows = rows; columns = columns; weights = weights }

-- the entry at a place
abbrev pub entry_at : Lists → ℕ → Entry
entry_at l k = record { row = get_or l.rows k 0; column = get_or l.columns k 0; weight = get_or l.weights k 0 }

-- the first k, in input order
unfoldable pub first_entries : ℕ → Lists → List Entry
first_entries zero l = []
first_entries (suc k) l = first_entries k l ++ (entry_at l k ∷ [])

-- the state of a stage, with the entries that the lists hold
abbrev pub state_of : Stage → Lists → State
state_of stage.Start l = start
state_of (stage.Sizing kind) l = sizing kind
state_of (stage.Entering kind n count read) l = entering kind n count (first_entries read l)

-- the state that a line leads to: that of its stage, or its refusal
abbrev pub state_after : Result Stage ℕ → Lists → State
state_after (Ok next) l = state_of next l
state_after (Err fault) l = refused fault

-- what is read: the file, with the entries that the lists hold, or the refusal
abbrev pub reading_from : Result File ℕ → Lists → Reading
reading_from (Ok f) l = file f.kind f.n (first_entries f.count l)
reading_from (Err fault) l = refusal fault

-- each list has a place for each of that many entries
abbrev pub Places : ℕ → Lists → Type 0
Places count l = (count ≤ length l.rows) × (count ≤ length l.columns) × (count ≤ length l.weights)

-- and for each that the size line announced
abbrev pub Room : Stage → Lists → Type 0
Room stage.Start l = Unit
Room (stage.Sizing kind) l = Unit
Room (stage.Entering kind n count read) l = Places count l

-- ---- what a reading leaves in the lists
-- entries stored from a place on, over what was there
abbrev pub stored : ℕ → List Entry → Lists → Lists
stored at entries l =
    lists (sets l.rows at (map entry_row entries)) (sets l.columns at (map entry_column entries))
    (sets l.weights at (map entry_weight entries))

abbrev pub is_refused : State → Bool
is_refused start = false
is_refused (sizing kind) = false
is_refused (entering kind n count entries) = false
is_refused (refused number) = true

-- the entries of a state
abbrev pub entries_in : State → List Entry
entries_in start = []
entries_in (sizing kind) = []
entries_in (entering kind n count entries) = entries
entries_in (refused number) = []

-- a line from one state to the next stores the entries that the next state adds
abbrev pub line_stored : State → State → Lists → Lists
line_stored state next l = stored (length (entries_in state)) (drop (length (entries_in state)) (entries_in next)) l

-- the entries that lines from a state on add up to: all, or those before the line that is refused
unfoldable pub taken : State → List (List ℕ) → List Entry
taken state [] = entries_in state
taken state (line ∷ lines) =
    cond (is_refused (read_line state line)) (entries_in state) (taken (read_line state line) lines)

-- the entries that are taken from an input, refused or not
unfoldable pub taken_of : List ℕ → List Entry
taken_of input = cond (leb (length input) max_input) (taken start (lines_of input)) []

-- the number of a word, which may begin with a minus if it is signed
abbrev pub word_read : Bool → List ℕ → Option ℕ
word_read true word = size_read word
word_read false word = number_read word
