-- What is a file is read as that file, and what is to be refused is refused with its number: the reader passes the well-formed lines, and then one
-- more line decides.
use Rattle.std.proofs.Common.{Option, Some, None, Err}
use mathlib.Core.Path.{◌≡◌, refl, sym, ap, ◌∙◌, subst}
use mathlib.Core.Bool.{false}
use mathlib.Core.Logic.{inl, inr, ⊎_elim}
use mathlib.Core.List.{List, [], ◌∷◌, ◌++◌, append-nil}
use Prim.Native.Nat.{ℕ, ◌≤◌, ◌<◌}
use native.Mathlib.Omega.{arith}
use borrow.Author.Tests.{eq-eqb, ne_eqb, le-leb, lt-leb}
use lib.ListN.{length}
use Rattle.refusal.specs.Refusal as number
use Rattle.refusal.specs.Refusal.{size_line, input_limit, entry_line, entry_count, repeated_pair, upper_entry}
use Rattle.text_matrix_market.specs.declared.banner.Kind.{Kind}
use Rattle.text_matrix_market.specs.declared.banner.Kind.TheVariants.{General}
use Rattle.text_matrix_market.specs.declared.stages.Entry.{Entry}
use Rattle.text_matrix_market.specs.Text.{lines_of, is_blank_line, begins_percent}
use Rattle.text_matrix_market.specs.Numbers.{numbers_of}
use Rattle.text_matrix_market.specs.File.{max_input, line_entry, State, start, sizing, entering, refused, content, read_line, read_lines, Reading, file}
use Rattle.text_matrix_market.specs.File.{refusal, reading_at_end, reading_of, file_of}
use Rattle.text_matrix_market.proofs.Entries as entries
use Rattle.text_tie_file.specs.Bytes.{Every, IsNumber}
use Rattle.text_tie_file.specs.Lines.{Narrow, BlankOrComment, ThreeWords}
use Rattle.text_tie_file.specs.File.{Laid, IsFile}
use Rattle.text_tie_file.specs.Refused.{Opens, Enters, NoBanner, SizeFails, NoSize, WideLine, LargeSize, NoEntry, CountFails, WrongCount}
use Rattle.text_tie_file.specs.Refused.{AboveDiagonal, Repeats, PastLimit, IsRefused, by_20, by_21, by_22, by_23, by_24, by_25, by_26}
use Rattle.text_tie_file.proofs.Lines.{blank_exactly, percent_exactly, denied, banner_told, numbers_exactly, above_read, Told, says, above, nothing}
use Rattle.text_tie_file.proofs.Lines.{entry_told}
use Rattle.text_tie_file.proofs.Pairs.{twice_exactly}
use Rattle.text_tie_file.proofs.Fronts.{every_split, refused_at, three_written, shaped_written, size_no_comment, opens_run, enters_run}

-- what comes of lines
abbrev lines_read : List (List ℕ) → Reading
lines_read lines = reading_at_end (read_lines start lines)

at-end : (s : State) (k : ℕ) (lines : List (List ℕ)) → read_lines start lines ≡ s → reading_at_end s ≡ refusal k → lines_read lines ≡ refusal k
at-end s k lines e h = ap reading_at_end e ∙ h

end_refused : (k : ℕ) → reading_at_end (refused k) ≡ refusal k
unfolding reading_at_end
end_refused k = refl

stops : (s : State) (k : ℕ) (lines : List (List ℕ)) (line : List ℕ) (rest : List (List ℕ)) → read_lines start lines ≡ read_lines s (line ∷ rest)
    → refused k ≡ read_line s line → lines_read lines ≡ refusal k
stops s k lines line rest e h = at-end (refused k) k lines (e ∙ refused_at s k line rest h) (end_refused k)

ends : (s : State) (k : ℕ) (lines : List (List ℕ)) → read_lines start lines ≡ read_lines s [] → reading_at_end s ≡ refusal k → lines_read lines ≡ refusal k
unfolding read_lines
ends s k lines e h = at-end s k lines e h

-- ---- 20
no_banner : (lines : List (List ℕ)) → NoBanner lines → lines_read lines ≡ refusal number.banner
unfolding read_lines reading_at_end
no_banner [] p = refl
no_banner (line ∷ lines) p = ⊎_elim
    (λ b. absurd (p.1 b.0 b.1))
    (λ o. stops start number.banner (line ∷ lines) line lines refl (entries.short line start p.0 (entries.banner_lacks line o.0)))
    (banner_told line)

-- ---- 21
size_fails : (kind : Kind) (line : List ℕ) → Narrow line → (BlankOrComment line → ⊥) → ((n count : ℕ) → ThreeWords IsNumber line n n count → ⊥)
    → refused size_line ≡ read_line (sizing kind) line
size_fails kind line w c f = entries.short line (sizing kind) w (by (numbers_of General line) refl)
  where
    b : is_blank_line line ≡ false
    b = denied (blank_exactly line) (λ x. c (inl x))

    p : begins_percent line ≡ false
    p = denied (percent_exactly line) (λ x. c (inr x))

    by : (x : Option (ℕ × ℕ × ℕ)) → numbers_of General line ≡ x → refused size_line ≡ content (sizing kind) line
    by None e = entries.no_size kind line b p e
    by (Some (m, n, count)) e =
        entries.not_square kind line b p e (λ (h : m ≡ n). f n count ((numbers_exactly General line n n count).0 (e ∙ ap (λ (x : ℕ). Some (x, n, count)) h)))

no_size : (lines : List (List ℕ)) → NoSize lines → lines_read lines ≡ refusal size_line
no_size lines x = by x.rest x.opens x.fails
  where
    by : (rest : List (List ℕ)) → Opens lines x.kind rest → SizeFails rest → lines_read lines ≡ refusal size_line
    by [] o f = ends (sizing x.kind) size_line lines (opens_run lines x.kind [] o) (unfold reading_at_end in refl)
    by (line ∷ rest) o f = stops (sizing x.kind) size_line lines line rest (opens_run lines x.kind (line ∷ rest) o)
        (size_fails x.kind line f.0 f.1 f.2)

-- ---- 22
wide_line : (lines : List (List ℕ)) → WideLine lines → lines_read lines ≡ refusal input_limit
wide_line lines (WideLine.first line rest e w) = stops start input_limit lines line rest (ap (read_lines start) e) (entries.long line start w refl)
wide_line lines (WideLine.opening kind line rest o w) = stops (sizing kind) input_limit lines line rest (opens_run lines kind (line ∷ rest) o)
    (entries.long line (sizing kind) w refl)
wide_line lines (WideLine.entering kind n count es line rest x w) =
    stops (entering kind n count es) input_limit lines line rest (enters_run lines kind n count es (line ∷ rest) x)
    (entries.long line (entering kind n count es) w refl)

large_size : (lines : List (List ℕ)) → LargeSize lines → lines_read lines ≡ refusal input_limit
large_size lines x =
    let line = x.size in
    let b = three_written IsNumber line x.n x.n x.count x.is_size in
    let p = size_no_comment line x.n x.n x.count x.is_size in
    let e = (numbers_exactly General line x.n x.n x.count).1 x.is_size in
    stops (sizing x.kind) input_limit lines line x.rest (opens_run lines x.kind (line ∷ x.rest) x.opens)
    (entries.short line (sizing x.kind) x.narrow
    (⊎_elim (λ h. entries.too_wide x.kind line b p e refl h) (λ h. entries.too_full x.kind line b p e refl h) x.past))

-- ---- 23, 24, 26
no_entry : (lines : List (List ℕ)) → NoEntry lines → lines_read lines ≡ refusal entry_line
no_entry lines x =
    stops (entering x.kind x.n x.count x.entries) entry_line lines x.line x.rest
    (enters_run lines x.kind x.n x.count x.entries (x.line ∷ x.rest) x.enters)
    (entries.short x.line (entering x.kind x.n x.count x.entries) x.narrow
    (entries.refused_entry x.kind x.n x.count x.entries x.line (denied (blank_exactly x.line) x.non_blank) x.awaited
    (by (entry_told x.kind x.n x.line))))
  where
    by : Told x.kind x.n x.line → line_entry x.kind x.n x.line ≡ Err entry_line
    by (says e s) = absurd (x.fails e s.0)
    by (above e s u) = absurd (x.fails e s)
    by (nothing m f) = m

above_diagonal : (lines : List (List ℕ)) → AboveDiagonal lines → lines_read lines ≡ refusal upper_entry
above_diagonal lines x =
    stops (entering x.kind x.n x.count x.entries) upper_entry lines x.line x.rest
    (enters_run lines x.kind x.n x.count x.entries (x.line ∷ x.rest) x.enters)
    (entries.short x.line (entering x.kind x.n x.count x.entries) x.narrow
    (entries.refused_entry x.kind x.n x.count x.entries x.line (shaped_written x.kind x.n x.line x.entry x.shaped) x.awaited
    (above_read x.kind x.n x.line x.entry x.shaped x.unstored)))

too_few : (kind : Kind) (n count : ℕ) (es : List Entry) → length es < count → reading_at_end (entering kind n count es) ≡ refusal entry_count
unfolding reading_at_end
too_few kind n count es h = rw (ne_eqb (length es) count (λ e. omega arith))

wrong_count : (lines : List (List ℕ)) → WrongCount lines → lines_read lines ≡ refusal entry_count
wrong_count lines x = by x.rest x.enters x.fails
  where
    by : (rest : List (List ℕ)) → Enters lines x.kind x.n x.count x.entries rest → CountFails x.count x.entries rest
        → lines_read lines ≡ refusal entry_count
    by [] o f = ends (entering x.kind x.n x.count x.entries) entry_count lines
        (enters_run lines x.kind x.n x.count x.entries [] o) (too_few x.kind x.n x.count x.entries f)
    by (line ∷ rest) o f =
        stops (entering x.kind x.n x.count x.entries) entry_count lines line rest
        (enters_run lines x.kind x.n x.count x.entries (line ∷ rest) o)
        (entries.short line (entering x.kind x.n x.count x.entries) f.1
        (entries.one_too_many x.kind x.n x.count x.entries line (denied (blank_exactly line) f.2) (omega (arith, f.0))))

-- ---- the input
short_read : (input : List ℕ) → length input ≤ max_input → reading_of input ≡ lines_read (lines_of input)
unfolding reading_of
short_read input h = rw (le-leb (length input) max_input h)

refused_file : (input : List ℕ) (k : ℕ) → reading_of input ≡ refusal k → file_of input ≡ refusal k
unfolding file_of
refused_file input k e = rw e

from_lines : (input : List ℕ) (k : ℕ) → length input ≤ max_input → lines_read (lines_of input) ≡ refusal k → file_of input ≡ refusal k
from_lines input k h e = refused_file input k (short_read input h ∙ e)

past_limit : (input : List ℕ) → PastLimit input → file_of input ≡ refusal input_limit
unfolding reading_of
past_limit input (inl h) = refused_file input input_limit (rw (lt-leb (length input) max_input h))
past_limit input (inr (h, x)) = from_lines input input_limit h (⊎_elim (wide_line (lines_of input)) (large_size (lines_of input)) x)

-- ---- what is laid out as a file
laid_enters : (input : List ℕ) (kind : Kind) (n : ℕ) (es : List Entry) → Laid input kind n es → Enters (lines_of input) kind n (length es) es []
laid_enters input kind n es l =
    let all = subst (Every Narrow) l.lines l.narrow in
    let cut = every_split Narrow l.above (l.size ∷ l.below) all.1 in
    record {
      size = l.size;
      below = l.below;
      opens = record {
        banner = l.banner;
        above = l.above;
        all = l.lines ∙ ap (λ (x : List (List ℕ)). l.banner ∷ (l.above ++ (l.size ∷ x))) (sym (append-nil l.below));
        narrow_banner = all.0;
        narrow = cut.0;
        is_banner = l.is_banner;
        are_above = l.are_above;
      };
      narrow_size = cut.1.0;
      narrow = cut.1.1;
      is_size = l.is_size;
      order = omega (arith, l.order);
      limit = l.count;
      says = l.says;
      few = omega arith;
    }

complete : (kind : Kind) (n : ℕ) (es : List Entry) → reading_at_end (entering kind n (length es) es) ≡ file kind n es
unfolding reading_at_end
complete kind n es = rw (eq-eqb (length es) (length es) refl)

laid_read : (input : List ℕ) (kind : Kind) (n : ℕ) (es : List Entry) → Laid input kind n es → reading_of input ≡ file kind n es
unfolding read_lines
laid_read input kind n es l =
    short_read input l.short ∙ ap reading_at_end (enters_run (lines_of input) kind n (length es) es [] (laid_enters input kind n es l)) ∙ complete kind n es

pub file_back : (input : List ℕ) (kind : Kind) (n : ℕ) (es : List Entry) → IsFile input kind n es → file_of input ≡ file kind n es
unfolding file_of
file_back input kind n es f = rw (laid_read input kind n es f.laid, denied (twice_exactly es) f.once)

repeats : (input : List ℕ) → Repeats input → file_of input ≡ refusal repeated_pair
unfolding file_of
repeats input r = rw (laid_read input r.kind r.n r.entries r.laid, (twice_exactly r.entries).1 r.twice)

pub refused_back : (input : List ℕ) (k : ℕ) → IsRefused input k → file_of input ≡ refusal k
refused_back input k (by_20 e (h, x)) = rw e (from_lines input number.banner h (no_banner (lines_of input) x))
refused_back input k (by_21 e (h, x)) = rw e (from_lines input size_line h (no_size (lines_of input) x))
refused_back input k (by_22 e x) = rw e (past_limit input x)
refused_back input k (by_23 e (h, x)) = rw e (from_lines input entry_line h (no_entry (lines_of input) x))
refused_back input k (by_24 e (h, x)) = rw e (from_lines input entry_count h (wrong_count (lines_of input) x))
refused_back input k (by_25 e x) = rw e (repeats input x)
refused_back input k (by_26 e (h, x)) = rw e (from_lines input upper_entry h (above_diagonal (lines_of input) x))
