-- Which numbers a tie file is refused with, for any input: 20 to 26. Each line keeps it of the reading so far, by cases.
use Rattle.std.proofs.Common.{Option, Some, None, Result, Ok, Err}
use mathlib.Core.Path.{◌≡◌, refl, sym, ap, ◌∙◌}
use mathlib.Core.Bool.{Bool, true, false, cond, ◌&&◌, ◌||◌}
use mathlib.Core.List.{List, [], ◌∷◌}
use Prim.Native.Nat.{ℕ}
use lib.Dec.{eqb, leb, ltb}
use lib.ListN.{length}
use Rattle.refusal.specs.Refusal.{input_limit}
use Rattle.refusal.specs.Listed.{listed, file_numbers}
use Rattle.text_matrix_market.specs.declared.banner.Kind.{Kind}
use Rattle.text_matrix_market.specs.declared.banner.Kind.TheVariants.{General}
use Rattle.text_matrix_market.specs.declared.stages.Entry.{Entry}
use Rattle.text_matrix_market.specs.Text.{lines_of, is_blank_line, begins_percent}
use Rattle.text_matrix_market.specs.Numbers.{numbers_of}
use Rattle.text_matrix_market.specs.Banner.{banner_kind}
use Rattle.text_matrix_market.specs.File.{is_within, weight_fits, is_upper, entry_from}
use Rattle.text_matrix_market.specs.File.{max_input, max_line, max_order, max_entries, line_entry, State, start, sizing, entering, refused, begun, sized}
use Rattle.text_matrix_market.specs.File.{entered, content, too_long, read_line, read_lines, Reading, file, refusal, reading_at_end, reading_of, repeated}
use Rattle.text_matrix_market.specs.File.{unrepeated, file_of}

-- no refusal, or one of the list
abbrev fine : State → Bool
fine start = true
fine (sizing kind) = true
fine (entering kind n count entries) = true
fine (refused number) = listed file_numbers number

abbrev pub fine_reading : Reading → Bool
fine_reading (file kind n entries) = true
fine_reading (refusal number) = listed file_numbers number

-- ---- one of two
either : (t : Bool) (a b : State) → fine a ≡ true → fine b ≡ true → fine (cond t a b) ≡ true
either true a b p q = p
either false a b p q = q

either_reading : (t : Bool) (a b : Reading) → fine_reading a ≡ true → fine_reading b ≡ true → fine_reading (cond t a b) ≡ true
either_reading true a b p q = p
either_reading false a b p q = q

-- ---- lines
begun_fine : (b : Option Kind) → fine (begun b) ≡ true
unfolding listed
begun_fine (Some kind) = refl
begun_fine None = refl

sized_fine : (kind : Kind) (numbers : Option (ℕ × ℕ × ℕ)) → fine (sized kind numbers) ≡ true
unfolding listed
sized_fine kind None = refl
sized_fine kind (Some (m, n, count)) = either (eqb m n) _ _ (either (leb n max_order && leb count max_entries) _ _ refl refl) refl

-- the refusals of an entry line
fine_entry : Result Entry ℕ → Bool
fine_entry (Ok entry) = true
fine_entry (Err fault) = listed file_numbers fault

either_entry : (t : Bool) (a b : Result Entry ℕ) → fine_entry a ≡ true → fine_entry b ≡ true → fine_entry (cond t a b) ≡ true
either_entry true a b p q = p
either_entry false a b p q = q

entry_fine : (kind : Kind) (n : ℕ) (numbers : Option (ℕ × ℕ × ℕ)) → fine_entry (entry_from kind n numbers) ≡ true
unfolding listed fine_entry
entry_fine kind n None = refl
entry_fine kind n (Some (row, column, weight)) =
    either_entry (is_within n row && (is_within n column && weight_fits kind n weight)) _ _ (either_entry (is_upper kind row column) _ _ refl refl) refl

entered_fine : (kind : Kind) (n count : ℕ) (entries : List Entry) (entry : Result Entry ℕ) → fine_entry entry ≡ true
    → fine (entered kind n count entries entry) ≡ true
unfolding fine_entry
entered_fine kind n count entries (Err fault) p = p
entered_fine kind n count entries (Ok entry) p = refl

content_fine : (state : State) (line : List ℕ) → fine state ≡ true → fine (content state line) ≡ true
unfolding listed content line_entry
content_fine start line p = begun_fine (banner_kind line)
content_fine (sizing kind) line p = either (is_blank_line line || begins_percent line) _ _ refl (sized_fine kind (numbers_of General line))
content_fine (entering kind n count entries) line p =
    either (is_blank_line line) _ _ refl (either (ltb (length entries) count) _ _ (entered_fine kind n count entries (line_entry kind n line) (entry_fine kind n (numbers_of kind line))) refl)
content_fine (refused number) line p = p

long_fine : (state : State) → fine state ≡ true → fine (too_long state) ≡ true
unfolding listed
long_fine start p = refl
long_fine (sizing kind) p = refl
long_fine (entering kind n count entries) p = refl
long_fine (refused number) p = p

lines_fine : (state : State) (lines : List (List ℕ)) → fine state ≡ true → fine (read_lines state lines) ≡ true
unfolding read_lines read_line
lines_fine state [] p = p
lines_fine state (line ∷ lines) p =
    lines_fine (read_line state line) lines (either (leb (length line) max_line) _ _ (content_fine state line p) (long_fine state p))

-- ---- the input
finish_fine : (state : State) → fine state ≡ true → fine_reading (reading_at_end state) ≡ true
unfolding listed reading_at_end
finish_fine start p = refl
finish_fine (sizing kind) p = refl
finish_fine (entering kind n count entries) p = either_reading (eqb (length entries) count) _ _ refl refl
finish_fine (refused number) p = p

unrepeated_fine : (r : Reading) → fine_reading r ≡ true → fine_reading (unrepeated r) ≡ true
unfolding listed
unrepeated_fine (file kind n entries) p = either_reading (repeated entries) _ _ refl refl
unrepeated_fine (refusal number) p = p

pub file_listed : (input : List ℕ) → fine_reading (file_of input) ≡ true
unfolding listed file_of reading_of
file_listed input =
    let last = read_lines start (lines_of input) in
    unrepeated_fine (reading_of input)
    (either_reading (leb (length input) max_input) (reading_at_end last) (refusal input_limit) (finish_fine last (lines_fine start (lines_of input) refl)) refl)

-- a number that `ties` refuses with is one of 20 to 26
pub refusal_listed : (input : List ℕ) (number : ℕ) → file_of input ≡ refusal number → listed file_numbers number ≡ true
refusal_listed input number e = sym (ap fine_reading e) ∙ file_listed input
