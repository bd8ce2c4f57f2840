-- What a reading leaves in the lists: a line adds its entry after those before it, or nothing, and what is stored in two parts is stored at once.
use Rattle.std.proofs.Common.{Option, Some, None, Result, Ok, Err}
use mathlib.Core.Path.{◌≡◌, refl, sym, ap, ◌∙◌}
use mathlib.Core.Bool.{Bool, true, false, cond, ◌&&◌, ◌||◌, true≢false, false≢true}
use mathlib.Core.List.{List, [], ◌∷◌, ◌++◌, map, map-append, append-nil}
use Prim.Native.Nat.{ℕ, suc, ◌+◌, ◌≤◌, ◌<◌}
use native.Mathlib.Nat.{add-zero}
use native.Mathlib.Omega.{arith}
use lib.Dec.{eqb, leb, ltb}
use lib.ListN.{length, drop, length-map, drop_of_length-le}
use lib.Seq.{sets, drop_at}
use Rattle.refusal.specs.Refusal.{input_limit, entry_count}
use Rattle.text_matrix_market.specs.declared.banner.Kind.{Kind}
use Rattle.text_matrix_market.specs.declared.banner.Kind.TheVariants.{General}
use Rattle.text_matrix_market.specs.declared.stages.Entry.{Entry}
use Rattle.text_matrix_market.specs.Text.{is_blank_line, begins_percent}
use Rattle.text_matrix_market.specs.Numbers.{numbers_of}
use Rattle.text_matrix_market.specs.Banner.{banner_kind}
use Rattle.text_matrix_market.specs.File.{max_line, max_order, max_entries, line_entry, State, start, sizing, entering, refused, begun, sized}
use Rattle.text_matrix_market.specs.File.{entered as enter, content, too_long, read_line}
use Rattle.text_matrix_market.specs.inner.Steps.{Lists, first_entries, Places, stored, is_refused, entries_in, line_stored}
use Rattle.text_matrix_market.specs.inner.Steps.{taken}
use Rattle.text_matrix_market.specs.File.{entry_row, entry_column, entry_weight}
use Rattle.text_matrix_market.proofs.Entries.{blank_below, one_too_many, refused_entry, entered, short, long}
use Rattle.text_matrix_market.proofs.Filling.{length_first, put, added}

-- ---- lists
drop-nil : (k : ℕ) → drop {A = Entry} k [] ≡ []
drop-nil k = drop_of_length-le [] {i = k} (omega arith)

sets_append : (l : List ℕ) (i : ℕ) (a b : List ℕ) → sets (sets l i a) (i + length a) b ≡ sets l i (a ++ b)
sets_append l i [] b = ap (λ (k : ℕ). sets l k b) (add-zero i)
sets_append l i (x ∷ a) b =
    let e : i + suc (length a) ≡ suc i + length a = omega arith in
    ap (λ (k : ℕ). sets (sets l i (x ∷ a)) k b) e ∙ sets_append _ (suc i) a b

-- entries behind entries
pub stored_more : (first : Lists) (a b : List Entry) → stored (length a) b (stored 0 a first) ≡ stored 0 (a ++ b) first
stored_more first a b =
    rw (part first.rows entry_row, part first.columns entry_column, part first.weights entry_weight) refl
  where
    part : (l : List ℕ) (f : Entry → ℕ) → sets (sets l 0 (map f a)) (length a) (map f b) ≡ sets l 0 (map f (a ++ b))
    part l f =
        let e : length a ≡ 0 + length (map f a) = rw (length-map a f) (omega arith) in
        ap (λ (k : ℕ). sets (sets l 0 (map f a)) k (map f b)) e ∙ sets_append l 0 (map f a) (map f b) ∙ ap (sets l 0) (sym (map-append f a b))

-- ---- a line that adds nothing
pub nothing_stored : (s next : State) (l : Lists) → entries_in next ≡ [] → l ≡ line_stored s next l
nothing_stored s next l e = rw (e, drop-nil (length (entries_in s)))

-- ---- one line below the size line: its answer, and what it leaves
abbrev Left : State → State → Lists → Lists → List ℕ → Type 0
Left next s after l line = (next ≡ content s line) × (after ≡ line_stored s (content s line) l)

refused_left : (s : State) (l : Lists) (line : List ℕ) (k : ℕ) → refused k ≡ content s line → Left (refused k) s l l line
refused_left s l line k e = (e, nothing_stored s (content s line) l (sym (ap entries_in e)))

module _ (kind : Kind) (n count read : ℕ) (l : Lists) (line : List ℕ) where
  abbrev here : State
  here = entering kind n count (first_entries read l)

  pub blank_left : is_blank_line line ≡ true → Left here here l l line
  blank_left b =
      let e : here ≡ content here line = blank_below kind n count (first_entries read l) line b in
      (e, rw (← e, drop_of_length-le (first_entries read l) {i = length (first_entries read l)} (omega arith)) refl)

  module _ (b : is_blank_line line ≡ false) where
    pub too_many_left : count ≤ read → Left (refused entry_count) here l l line
    too_many_left h = refused_left here l line entry_count (one_too_many kind n count (first_entries read l) line b (rw length_first h))

    module _ (h : read < count) where
      pub entry_refused_left : {fault : ℕ} → line_entry kind n line ≡ Err fault → Left (refused fault) here l l line
      entry_refused_left {fault} e = refused_left here l line fault (refused_entry kind n count (first_entries read l) line b (rw length_first h) e)

      pub added_left : {t : Entry} → Places count l → line_entry kind n line ≡ Ok t
          → Left (entering kind n count (first_entries (read + 1) (put l read t))) here (put l read t) l line
      added_left {t} p e =
          let f : length (first_entries read l) ≡ read = length_first read l in
          let x : entering kind n count (first_entries read l ++ (t ∷ [])) ≡ content here line =
          entered kind n count (first_entries read l) line b (omega arith) e in
          (added kind n count read l line b p h e, rw (← x, drop_at (first_entries read l) (t ∷ []) (length (first_entries read l)) refl, f) refl)

pub none_at_start : (line : List ℕ) → entries_in (content start line) ≡ []
unfolding content
none_at_start line = by (banner_kind line)
  where
    by : (b : Option Kind) → entries_in (begun b) ≡ []
    by (Some kind) = refl
    by None = refl

either : (t : Bool) (a b : State) → entries_in a ≡ [] → entries_in b ≡ [] → entries_in (cond t a b) ≡ []
either true a b g h = g
either false a b g h = h

pub none_above : (kind : Kind) (line : List ℕ) → entries_in (content (sizing kind) line) ≡ []
unfolding content
none_above kind line = either (is_blank_line line || begins_percent line) _ _ refl (by (numbers_of General line))
  where
    by : (x : Option (ℕ × ℕ × ℕ)) → entries_in (sized kind x) ≡ []
    by None = refl
    by (Some (m, n, count)) = either (eqb m n) _ _ (either (leb n max_order && leb count max_entries) _ _ refl refl) refl

pub none_too_long : (s : State) → entries_in (too_long s) ≡ []
none_too_long start = refl
none_too_long (sizing kind) = refl
none_too_long (entering kind n count entries) = refl
none_too_long (refused number) = refl

-- ---- one line, whatever the state
abbrev pub LineLeft : State → State → Lists → Lists → List ℕ → Type 0
LineLeft next s after l line = (next ≡ read_line s line) × (after ≡ line_stored s (read_line s line) l)

module _ (line : List ℕ) where
  pub long_left : {r : State} (s : State) (l : Lists) → max_line < length line → r ≡ too_long s → LineLeft r s l l line
  long_left s l h e =
      let x : too_long s ≡ read_line s line = long line s h refl in
      (long line s h e, nothing_stored s (read_line s line) l (sym (ap entries_in x) ∙ none_too_long s))

  module _ (h : length line ≤ max_line) where
    pub short_left : {r : State} (s : State) (after l : Lists) → Left r s after l line → LineLeft r s after l line
    short_left s after l e =
        let x : content s line ≡ read_line s line = short line s h refl in
        (e.0 ∙ x, e.1 ∙ ap (λ (next : State). line_stored s next l) x)

    quiet_left : {r : State} (s : State) (l : Lists) → entries_in (content s line) ≡ [] → r ≡ content s line → LineLeft r s l l line
    quiet_left s l n e = short_left s l l (e, nothing_stored s (content s line) l n)

    pub start_left : {r : State} (l : Lists) → r ≡ content start line → LineLeft r start l l line
    start_left l e = quiet_left start l (none_at_start line) e

    pub above_size_left : {r : State} (kind : Kind) (l : Lists) → r ≡ content (sizing kind) line → LineLeft r (sizing kind) l l line
    above_size_left kind l e = quiet_left (sizing kind) l (none_above kind line) e

-- ---- from line to line
-- what a state has more than the one before it
abbrev More : State → State → Type 0
More s next = (more : List Entry) × (entries_in next ≡ entries_in s ++ more)

below_adds : (kind : Kind) (n count : ℕ) (entries : List Entry) (t b u : Bool) (e : Result Entry ℕ)
    → is_refused (cond t (cond b (entering kind n count entries) (cond u (enter kind n count entries e) (refused entry_count))) (refused input_limit)) ≡ false
    → More (entering kind n count entries)
    (cond t (cond b (entering kind n count entries) (cond u (enter kind n count entries e) (refused entry_count))) (refused input_limit))
below_adds kind n count entries true true u e h = ([], sym (append-nil entries))
below_adds kind n count entries true false true (Ok x) h = (x ∷ [], refl)
below_adds kind n count entries true false true (Err fault) h = absurd (true≢false h)
below_adds kind n count entries true false false e h = absurd (true≢false h)
below_adds kind n count entries false b u e h = absurd (true≢false h)

adds : (s : State) (line : List ℕ) → is_refused (read_line s line) ≡ false → More s (read_line s line)
adds start line h = (entries_in (read_line start line), refl)
adds (sizing kind) line h = (entries_in (read_line (sizing kind) line), refl)
adds (entering kind n count entries) line h =
    unfold read_line content in below_adds kind n count entries (leb (length line) max_line) (is_blank_line line) (ltb (length entries) count)
    (line_entry kind n line) h
adds (refused number) line h = (entries_in (read_line (refused number) line), refl)

grows : (s : State) (line : List ℕ) → is_refused (read_line s line) ≡ false → entries_in s ++ drop (length (entries_in s)) (entries_in (read_line s line))
    ≡ entries_in (read_line s line)
grows s line h =
    let m = adds s line h in
    rw (m.1, drop_at (entries_in s) m.0 (length (entries_in s)) refl) refl

none_refused : (s : State) → is_refused s ≡ true → entries_in s ≡ []
none_refused start h = refl
none_refused (sizing kind) h = refl
none_refused (entering kind n count entries) h = absurd (false≢true h)
none_refused (refused number) h = refl

stays_refused : (s : State) (line : List ℕ) → is_refused s ≡ true → is_refused (read_line s line) ≡ true
unfolding read_line content
stays_refused start line h = absurd (false≢true h)
stays_refused (sizing kind) line h = absurd (false≢true h)
stays_refused (entering kind n count entries) line h = absurd (false≢true h)
stays_refused (refused number) line h = by (leb (length line) max_line)
  where
    by : (t : Bool) → is_refused (cond t (refused number) (refused number)) ≡ true
    by true = refl
    by false = refl

-- the lists hold the entries that were taken, over what they held first; `all` are those of the whole reading
pub record Held (all : List Entry) (first : Lists) (s : State) (l : Lists) (lines : List (List ℕ)) : Type 0 where
  pub entries : List Entry
  pub left : l ≡ stored 0 entries first
  pub same : all ≡ cond (is_refused s) entries (taken s lines)
  pub now : is_refused s ≡ false → entries_in s ≡ entries

pub held_first : (all : List Entry) (first : Lists) (lines : List (List ℕ)) → all ≡ taken start lines → Held all first start first lines
held_first all first lines e = record { entries = []; left = refl; same = e; now = λ h. refl }

module _ {all : List Entry} {first : Lists} {s : State} {l : Lists} where
  pub held_last : Held all first s l [] → l ≡ stored 0 all first
  unfolding taken
  held_last h = h.left ∙ ap (λ (es : List Entry). stored 0 es first) (sym (by (is_refused s) refl h.same))
    where
      by : (t : Bool) → is_refused s ≡ t → all ≡ cond t h.entries (entries_in s) → all ≡ h.entries
      by true e x = x
      by false e x = x ∙ h.now e

  -- at a refusal, whatever the lines below say
  pub held_refused : {lines : List (List ℕ)} → is_refused s ≡ true → Held all first s l lines → l ≡ stored 0 all first
  held_refused {lines} r h =
      let e : all ≡ h.entries = h.same ∙ rw r in
      h.left ∙ ap (λ (es : List Entry). stored 0 es first) (sym e)

  pub held_next : {l' : Lists} (line : List ℕ) (lines : List (List ℕ)) → Held all first s l (line ∷ lines) → l' ≡ line_stored s (read_line s line) l
      → Held all first (read_line s line) l' lines
  unfolding taken
  held_next {l'} line lines h e = by (is_refused s) (is_refused next) refl refl h.same
    where
      next : State
      next = read_line s line

      -- a refusal stores nothing
      nothing : is_refused next ≡ true → l' ≡ l
      nothing x = e ∙ sym (nothing_stored s next l (none_refused next x))

      by : (t u : Bool) → is_refused s ≡ t → is_refused next ≡ u → all ≡ cond t h.entries (cond u (entries_in s) (taken next lines))
          → Held all first next l' lines
      by true u p q x =
          let r : is_refused next ≡ true = stays_refused s line p in
          record { entries = h.entries; left = nothing r ∙ h.left; same = rw r x; now = λ y. absurd (true≢false (sym r ∙ y)) }
      by false true p q x =
          record { entries = h.entries; left = nothing q ∙ h.left; same = rw q (x ∙ h.now p); now = λ y. absurd (true≢false (sym q ∙ y)) }
      by false false p q x =
          let m : entries_in s ≡ h.entries = h.now p in
          record {
            entries = entries_in next;
            left = e ∙ ap (line_stored s next) (h.left ∙ ap (λ (es : List Entry). stored 0 es first) (sym m))
                ∙ stored_more first (entries_in s) (drop (length (entries_in s)) (entries_in next)) ∙ ap (λ (es : List Entry). stored 0 es first) (grows s line q);
            same = rw q x;
            now = λ y. refl;
          }
