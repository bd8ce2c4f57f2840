-- A reading line by line: the result for the input is the result for the lines from here on, and the lists hold the entries taken so far. By one step
-- of the definition each.
use mathlib.Core.Path.{◌≡◌, refl, sym, ap, ◌∙◌, subst}
use mathlib.Core.Bool.{true}
use mathlib.Core.List.{List, ◌∷◌}
use Prim.Native.Nat.{ℕ, ◌+◌, ◌-◌, ◌≤◌, ◌<◌}
use native.Mathlib.Omega.{arith}
use borrow.Author.Tests.{eq-eqb, ne_eqb, le-leb, lt-leb}
use lib.Dec.{leb}
use lib.ListN.{length, take, drop}
use Rattle.refusal.specs.Refusal.{input_limit, entry_count}
use Rattle.text_matrix_market.specs.declared.banner.Kind.{Kind}
use Rattle.text_matrix_market.specs.declared.stages.Stage.{Stage}
use Rattle.text_matrix_market.specs.declared.stages.Stage.TheVariants.{Start, Sizing, Entering}
use Rattle.text_matrix_market.specs.Text.{lines_of}
use Rattle.text_matrix_market.specs.File.{max_input, max_entries, State, entering, refused, read_lines, Reading, file, refusal, reading_at_end, reading_of}
use Rattle.text_matrix_market.specs.inner.Steps.{line_end, Lists, first_entries, state_of, Places, Room, stored, taken_of}
use Rattle.text_matrix_market.proofs.Words.{lines_first, lines_none}
use Rattle.text_matrix_market.proofs.Filling.{length_first}
use Rattle.text_matrix_market.proofs.Accepted.{Good, good_line}
use Rattle.text_matrix_market.proofs.Entries.{refused_lines}
use Rattle.text_matrix_market.proofs.Taken.{LineLeft, Held, held_first, held_next, held_refused, held_last}

-- the lists are as long as they were
pub record Kept (before after : Lists) : Type 0 where
  pub rows : length after.rows ≡ length before.rows
  pub columns : length after.columns ≡ length before.columns
  pub weights : length after.weights ≡ length before.weights

pub record On (input : List ℕ) (first : Lists) (stage : Stage) (l : Lists) (at : ℕ) : Type 0 where
  pub same : reading_of input ≡ reading_at_end (read_lines (state_of stage l) (lines_of (drop at input)))
  pub good : Good (state_of stage l)
  pub kept : Kept first l
  pub held : Held (taken_of input) first (state_of stage l) l (lines_of (drop at input))

-- the line from `at` up to `end`
abbrev pub line_at : List ℕ → ℕ → ℕ → List ℕ
line_at input at end = take (end - at) (drop at input)

room : (stage : Stage) (l : Lists) → Good (state_of stage l) → Places max_entries l → Room stage l
room Start l g p = tt
room (Sizing kind) l g p = tt
room (Entering kind n count read) l g p = (omega (arith, g.1, p.0), omega (arith, g.1, p.1), omega (arith, g.1, p.2))

-- the answer, and what is left
abbrev Answered : Reading → List ℕ → Lists → Lists → Type 0
Answered r input first l = (r ≡ reading_of input) × (l ≡ stored 0 (taken_of input) first)

pub over_limit : (input : List ℕ) (first : Lists) → max_input < length input → Answered (refusal input_limit) input first first
unfolding reading_of taken_of
over_limit input first h = (rw (lt-leb (length input) max_input h), rw (lt-leb (length input) max_input h) refl)

module _ (input : List ℕ) (first : Lists) where
  pub first_line : length input ≤ max_input → On input first Start first 0
  unfolding reading_of taken_of
  first_line h =
      let short : leb (length input) max_input ≡ true = le-leb (length input) max_input h in
      record {
        same = rw short;
        good = tt;
        kept = record { rows = refl; columns = refl; weights = refl };
        held = held_first (taken_of input) first (lines_of input) (rw short refl);
      }

  module _ {stage : Stage} {l : Lists} {at : ℕ} (o : On input first stage l at) where
    pub has_room : Places max_entries first → Room stage l
    has_room p = room stage l o.good (omega (arith, p.0, o.kept.rows), omega (arith, p.1, o.kept.columns), omega (arith, p.2, o.kept.weights))

    pub next_line : {end : ℕ} {next : Stage} {l' : Lists} → at < length input → end ≡ line_end input at
        → LineLeft (state_of next l') (state_of stage l) l' l (line_at input at end) → Kept first l' → On input first next l' (end + 1)
    unfolding read_lines
    next_line {end} {next} {l'} h e a k =
        let line = line_at input at end in
        let cut : lines_of (drop at input) ≡ line ∷ lines_of (drop (end + 1) input) = rw e (lines_first input at h) in
        record {
          same = rw a.0 (o.same ∙ ap (λ (lines : List (List ℕ)). reading_at_end (read_lines (state_of stage l) lines)) cut);
          good = rw a.0 (good_line (state_of stage l) line o.good);
          kept = k;
          held = subst (λ (s : State). Held (taken_of input) first s l' (lines_of (drop (end + 1) input))) (sym a.0)
              (held_next line (lines_of (drop (end + 1) input)) (subst (Held (taken_of input) first (state_of stage l) l) cut o.held) a.1);
        }

    -- a refused line ends the reading: the lines below it change nothing
    pub refused_there : {end number : ℕ} {l' : Lists} → at < length input → end ≡ line_end input at
        → LineLeft (refused number) (state_of stage l) l' l (line_at input at end) → Answered (refusal number) input first l'
    unfolding read_lines reading_at_end
    refused_there {end} {number} {l'} h e a =
        let line = line_at input at end in
        let rest = lines_of (drop (end + 1) input) in
        let cut : lines_of (drop at input) ≡ line ∷ rest = rw e (lines_first input at h) in
        let last : Held (taken_of input) first (refused number) l' rest =
        subst (λ (s : State). Held (taken_of input) first s l' rest) (sym a.0)
        (held_next line rest (subst (Held (taken_of input) first (state_of stage l) l) cut o.held) a.1) in (
          sym (o.same ∙ ap (λ (lines : List (List ℕ)). reading_at_end (read_lines (state_of stage l) lines)) cut
              ∙ ap (λ (s : State). reading_at_end (read_lines s rest)) (sym a.0) ∙ ap reading_at_end (refused_lines number rest)),
          held_refused refl last,
        )

    pub concluded : {r : Reading} → length input ≤ at → r ≡ reading_at_end (state_of stage l) → Answered r input first l
    unfolding read_lines
    concluded h a = (
      a ∙ sym (o.same ∙ rw (lines_none input at h)),
      held_last (subst (Held (taken_of input) first (state_of stage l) l) (lines_none input at h) o.held),
    )

-- ---- the end of an input below its size line
module _ (kind : Kind) (n count read : ℕ) (l : Lists) where
  pub complete : read ≡ count → file kind n (first_entries count l) ≡ reading_at_end (entering kind n count (first_entries read l))
  unfolding reading_at_end
  complete e = rw (eq-eqb (length (first_entries read l)) count (length_first read l ∙ e), e)

  pub incomplete : (read ≡ count → ⊥) → refusal entry_count ≡ reading_at_end (entering kind n count (first_entries read l))
  unfolding reading_at_end
  incomplete h = rw (ne_eqb (length (first_entries read l)) count (λ e. h (sym (length_first read l) ∙ e)))
