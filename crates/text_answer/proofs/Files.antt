-- From a reading to its entries: the lists that hold them are within the limits, and their text is the reading's.
use mathlib.Core.Path.{◌≡◌, refl, sym, ap, subst, ◌∙◌}
use mathlib.Core.Bool.{Bool, true, false, cond}
use mathlib.Core.Logic.{◌⊎◌, inl, inr}
use mathlib.Core.List.{List, [], ◌∷◌, map}
use Prim.Native.Nat.{ℕ, zero, suc, min, ◌≤◌, ◌<◌}
use native.Mathlib.Omega.{arith}
use borrow.Author.Tests.{leb-true, leb-false, lt-leb, lt-ltb, le-ltb}
use lib.Dec.{leb}
use lib.ListN.{length, get_or, take, length-take, length-map}
use lib.Seq.{take_all}
use lib.Ieee.{Float}
use Rattle.refusal.specs.Refusal.{input_limit, repeated_pair}
use Rattle.text_matrix_market.specs.declared.banner.Kind.{Kind}
use Rattle.text_matrix_market.specs.declared.banner.Kind.TheVariants.{General, Symmetric, Pattern}
use Rattle.text_matrix_market.specs.declared.stages.Entry.{Entry}
use Rattle.text_matrix_market.specs.File.{max_input, max_entries, Reading, file, refusal, repeated, unrepeated, file_of, reading_of}
use Rattle.text_matrix_market.specs.File.{weight_fits, is_upper}
use Rattle.text_matrix_market.specs.inner.Steps.{Lists, first_entries, reading_from, Places}
use Rattle.text_matrix_market.specs.File.{entry_row, entry_column, entry_weight}
use Rattle.text_matrix_market.proofs.Accepted.{accepted, each_at, Limits, Sound, Each, WeightWithin, Stored}
use Rattle.text_matrix_market.proofs.Filling.{length_first, front}
use Rattle.triplets.specs.Order.{Below}
use Rattle.text_graph.specs.Graph.{cost_values}
use Rattle.text_report.specs.declared.Form.{Form}
use Rattle.text_report.specs.Report.{refused_text}
use Rattle.text_tie_file.proofs.Theorems.{file_exactly, refused_exactly}
use Rattle.text_report.specs.inner.Steps.{output_length}
use Rattle.text_answer.specs.Answer.{ReportAnswer, report_written, Whole, ByInput, buffer_length, entries_graph}
use Rattle.text_answer.specs.Answer.{text_of, graph_text, answer_text}
use Rattle.text_answer.specs.inner.Steps.{FileEntries, Entries, entries_text}
use Rattle.text_answer.proofs.Graphs.{as_general}

-- ---- what the limits say of an entry, by its tests
weight_fits_lem : (kind : Kind) (n : ℕ) (weight : ℕ) → WeightWithin kind n weight → weight_fits kind n weight ≡ true
weight_fits_lem General n weight h = lt-ltb _ _ h
weight_fits_lem Symmetric n weight h = lt-ltb _ _ h
weight_fits_lem Pattern n weight h = lt-ltb _ _ h

not_upper : (kind : Kind) (row column : ℕ) → Stored kind row column → is_upper kind row column ≡ false
not_upper General row column h = refl
not_upper Symmetric row column h = le-ltb _ _ h
not_upper Pattern row column h = refl

-- row and column of an entry by their places
stored_at : (kind : Kind) (n : ℕ) (entries : List Entry) → Each kind n entries → (k : ℕ) → k < length entries
    → is_upper kind (get_or (map entry_row entries) k 0) (get_or (map entry_column entries) k 0) ≡ false
stored_at kind n [] e k h = let z : ⊥ = omega arith in absurd z
stored_at kind n (t ∷ entries) e zero h = not_upper kind t.row t.column e.0.stored
stored_at kind n (t ∷ entries) e (suc k) h = stored_at kind n entries e.1 k (omega arith)

-- ---- a reading that is a file
module _ (input : List ℕ) {kind : Kind} {n : ℕ} {entries : List Entry} (e : reading_of input ≡ file kind n entries) where
  limits : Limits kind n entries
  limits = accepted input kind n entries e

  below : (bound : ℕ) (f : Entry → ℕ) → ((t : Entry) → Sound kind n t → f t < bound) → Below bound (map f entries)
  below bound f s k h = each_at kind n (λ x. x < bound) f s entries limits.each k (rw (length-map entries f) at h)

  pub entries_sound : {output : List ℕ} → length output ≡ output_length → FileEntries kind n (map entry_row entries) (map entry_column entries)
      (map entry_weight entries) output
  entries_sound o = record {
    few = limits.order;
    short = rw (length-map entries entry_row) limits.count;
    inside = record {
      pairs = length-map entries entry_column ∙ sym (length-map entries entry_row);
      rows_in = below n entry_row (λ t s. s.row);
      cols_in = below n entry_column (λ t s. s.column);
    };
    sizes = length-map entries entry_weight ∙ sym (length-map entries entry_row);
    weights_in = λ k h. each_at kind n (λ x. weight_fits kind n x ≡ true) entry_weight (λ t s. weight_fits_lem kind n t.weight s.weight) entries
        limits.each k (rw (length-map entries entry_weight) at h);
    stored = λ k h. stored_at kind n entries limits.each k (rw (length-map entries entry_row) at h);
    room = o;
  }

-- of which the lists hold the entries
module _ {kind : Kind} {n : ℕ} (count : ℕ) (input : List ℕ) (l : Lists) (e : file kind n (first_entries count l) ≡ reading_of input)
    (p : Places max_entries l) where
  abbrev entries : List Entry
  entries = first_entries count l

  few : count ≤ max_entries
  few = omega (arith, (limits input (sym e)).count, length_first count l)

  -- the lists have a place for each
  pub count_fits : Places count l
  count_fits = (omega (arith, few, p.0), omega (arith, few, p.1), omega (arith, few, p.2))

  rows_are : take count l.rows ≡ map entry_row entries
  rows_are = front l entry_row l.rows (λ k. refl) count count_fits.0

  columns_are : take count l.columns ≡ map entry_column entries
  columns_are = front l entry_column l.columns (λ k. refl) count count_fits.1

  weights_are : take count l.weights ≡ map entry_weight entries
  weights_are = front l entry_weight l.weights (λ k. refl) count count_fits.2

  pub entries_are : {output : List ℕ} → length output ≡ output_length → FileEntries kind n (take count l.rows) (take count l.columns)
      (take count l.weights) output
  entries_are o = rw (rows_are, columns_are, weights_are) (entries_sound input (sym e) o)

  -- their text is the input's
  pub text_is : (form : Form) → entries_text form kind n (take count l.rows) (take count l.columns) (take count l.weights) ≡ answer_text form input
  unfolding entries_text answer_text text_of file_of
  text_is form = rw (rows_are, columns_are, weights_are)
      (sym (ap (λ (r : Reading). text_of form (unrepeated r)) (sym e) ∙ go (repeated entries)))
    where
      whole : List ℕ
      whole = graph_text form (entries_graph kind n entries)

      go : (b : Bool) → text_of form (cond b (refusal repeated_pair) (file kind n entries)) ≡ cond b (refused_text repeated_pair) whole
      go true = refl
      go false = refl

-- as many weights as the array for their doubles has places
pub weights_few : {kind : Kind} {n : ℕ} {rows cols weights output : List ℕ} → FileEntries kind n rows cols weights output → length weights ≤ 512
weights_few f = omega (arith, f.sizes, f.short)

-- ---- entries by their kind
-- a pattern's have costs
pub pattern_values : {n : ℕ} {rows cols : List ℕ} {values : List Float} {output : List ℕ} → Entries Pattern n rows cols values output
    → Entries General n rows cols values output
pattern_values S = record { weights = S.weights; held = as_general S.held; valued = S.valued }

-- their text is the same in either kind
pub pattern_text : (form : Form) (n : ℕ) (rows cols weights : List ℕ) → entries_text form General n rows cols weights ≡ entries_text form Pattern n rows
    cols weights
unfolding entries_text
pattern_text form n rows cols weights = refl

-- entries whose weights are held by doubles
pub as_entries : {kind other : Kind} {n : ℕ} {rows cols weights : List ℕ} {values : List Float} {output : List ℕ} → kind ≡ other
    → FileEntries kind n rows cols weights output → values ≡ cost_values weights → Entries other n rows cols values output
as_entries {n = n} {rows} {cols} {weights} {values} {output} q f v =
    record { weights = weights; held = subst (λ (k : Kind). FileEntries k n rows cols weights output) q f; valued = v }

-- and in a kind that is known
pub told_in_kind : (form : Form) {kind other : Kind} (n : ℕ) (rows cols weights old : List ℕ) {reported : ReportAnswer} → kind ≡ other
    → reported ≡ report_written (entries_text form other n rows cols weights) old → reported ≡ report_written (entries_text form kind n rows cols weights) old
told_in_kind form n rows cols weights old q e = e ∙ ap (λ (k : Kind). report_written (entries_text form k n rows cols weights) old) (sym q)

-- the kinds that have costs
abbrev pub HasCosts : Kind → Type 0
HasCosts kind = (kind ≡ General) ⊎ (kind ≡ Pattern)

pub cost_entries : {kind : Kind} {n : ℕ} {rows cols weights : List ℕ} {values : List Float} {output : List ℕ} → HasCosts kind
    → FileEntries kind n rows cols weights output → values ≡ cost_values weights → Entries General n rows cols values output
cost_entries (inl q) f v = as_entries q f v
cost_entries (inr q) f v = pattern_values (as_entries q f v)

pub cost_told : (form : Form) {kind : Kind} (n : ℕ) (rows cols weights old : List ℕ) {reported : ReportAnswer} → HasCosts kind
    → reported ≡ report_written (entries_text form General n rows cols weights) old → reported ≡ report_written (entries_text form kind n rows cols weights) old
cost_told form n rows cols weights old (inl q) e = told_in_kind form n rows cols weights old q e
cost_told form n rows cols weights old (inr q) e =
    told_in_kind form n rows cols weights old q (e ∙ ap (λ (text : List ℕ). report_written text old) (pattern_text form n rows cols weights))

-- ---- a reading that is refused
pub refused_text_lem : (form : Form) {number : ℕ} (input : List ℕ) → refusal number ≡ reading_of input → refused_text number ≡ answer_text form input
unfolding answer_text text_of file_of
refused_text_lem form input e = ap (λ (r : Reading). text_of form (unrepeated r)) e

-- ---- an input longer than the buffer is refused by its front as it is whole
over : (input : List ℕ) → max_input < length input → reading_of input ≡ refusal input_limit
unfolding reading_of
over input h = rw (lt-leb _ _ h) refl

front_enough : (form : Form) (input : List ℕ) → answer_text form (take buffer_length input) ≡ answer_text form input
unfolding answer_text file_of
front_enough form input = go (leb (length input) buffer_length) refl
  where
    go : (t : Bool) → leb (length input) buffer_length ≡ t → text_of form (file_of (take buffer_length input)) ≡ text_of form (file_of input)
    go true e = ap (λ (l : List ℕ). text_of form (file_of l)) (take_all buffer_length input (leb-true _ _ e))
    go false e =
        let long : buffer_length < length input = leb-false _ _ e in
        let front : max_input < length (take buffer_length input) = simp length-take (omega arith) in
        ap (λ (r : Reading). text_of form (unrepeated r)) (over (take buffer_length input) front ∙ sym (over input (omega arith)))

module _ (form : Form) (count : ℕ) (buffer old : List ℕ) {reported : ReportAnswer} where
  pub whole : length buffer ≡ buffer_length → reported ≡ report_written (answer_text form (take count buffer)) old → Whole form count buffer old reported
  whole h e input same =
      let front : take buffer_length input ≡ take count buffer = subst (λ (k : ℕ). take k input ≡ take count buffer) h same in
      e ∙ ap (λ (t : List ℕ). report_written t old) (ap (answer_text form) (sym front) ∙ front_enough form input)

  pub by_input : Whole form count buffer old reported → ByInput form count buffer old reported
  unfolding answer_text text_of
  by_input w input same = (
    λ kind n entries f. w input same ∙ ap (λ (r : Reading). report_written (text_of form r) old) ((file_exactly input kind n entries).1 f),
    λ k f. w input same ∙ ap (λ (r : Reading). report_written (text_of form r) old) ((refused_exactly input k).1 f),
  )

-- the bytes that were read, at most as many as the buffer takes
pub clipped : (count : ℕ) (buffer : List ℕ) {read : ℕ} → length buffer ≡ buffer_length → read ≡ min count buffer_length → take read buffer ≡ take count buffer
clipped count buffer {read} h e = by (leb count buffer_length) refl
  where
    by : (t : Bool) → leb count buffer_length ≡ t → take read buffer ≡ take count buffer
    by true l =
        let few : count ≤ buffer_length = leb-true _ _ l in
        let same : read ≡ count = omega arith in
        ap (λ (k : ℕ). take k buffer) same
    by false l =
        let many : buffer_length < count = leb-false _ _ l in
        take_all read buffer (omega arith) ∙ sym (take_all count buffer (omega arith))
