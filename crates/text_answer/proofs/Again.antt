-- The pairs of a file's match, read again: the text is the pattern file of these pairs (`read_again`), the match of that file is these pairs
-- (`match_again`), and so its text is the same.
use mathlib.Core.Path.{◌≡◌, refl, sym, ap, ap₂, subst, ◌∙◌}
use mathlib.Core.Bool.{Bool, true, false, cond}
use mathlib.Core.List.{List, map}
use Prim.Native.Nat.{ℕ, ◌≤◌}
use native.Mathlib.Omega.{arith}
use lib.ListN.{length, take, replicate, length-replicate}
use lib.Seq.{sets, sets-eq, take_at}
use Rattle.refusal.specs.Refusal.{repeated_pair}
use Rattle.text_matrix_market.specs.declared.banner.Kind.{Kind}
use Rattle.text_matrix_market.specs.declared.banner.Kind.TheVariants.{Pattern}
use Rattle.text_matrix_market.specs.declared.stages.Entry.{Entry}
use Rattle.text_matrix_market.specs.File.{Reading, file, refusal, repeated, unrepeated, file_of, reading_of}
use Rattle.text_matrix_market.specs.File.{entry_row, entry_column, entry_weight}
use Rattle.hungarian.specs.Graph.{CostGraph}
use Rattle.hungarian.specs.Match.{Matching, hungarian_match}
use Rattle.hungarian.specs.Optimal.{LargestMatch}
use Rattle.hungarian.proofs.Theorems.{match_optimal}
use Rattle.text_report.specs.declared.Form.{Form}
use Rattle.text_report.specs.declared.Form.TheVariants.{Pairs}
use Rattle.text_report.specs.Pairs.{pairs_text}
use Rattle.text_report.specs.Form.{form_text}
use Rattle.text_pairs_read.specs.Pairs.{pair_entries}
use Rattle.text_pairs_read.proofs.Theorems.{read_again}
use Rattle.text_pairs_match.specs.PairGraph.{pair_graph}
use Rattle.text_pairs_match.proofs.AllMatched.{ranged_rows}
use Rattle.text_pairs_match.proofs.Theorems.{ranged_counted, match_again, count_again}
use Rattle.text_report.specs.inner.Steps.{output_length}
use Rattle.text_answer.specs.Answer.{ReportAnswer, report_answer, report_written, entries_graph, graph_text, text_of}
use Rattle.text_answer.specs.Answer.{answer_text, file_rows, ReadAgain, Again}
use Rattle.text_answer.specs.inner.Steps.{Reportable}
use Rattle.text_answer.proofs.Graphs.{has_text, order_is}
use Rattle.text_answer.proofs.Files.{entries_sound}

-- a file of which no pair stands twice
once_read : {kind : Kind} {n : ℕ} {entries : List Entry} (r : Reading) → unrepeated r ≡ file kind n entries → (r ≡ file kind n entries)
    × (repeated entries ≡ false)
once_read (refusal number) e = let y : ◌≡◌ {A = ℕ} 0 1 = cc in let w : ⊥ = omega arith in absurd w
once_read {kind} {n} {entries} (file other m more) e = go (repeated more) refl e
  where
    go : (b : Bool) → repeated more ≡ b → cond b (refusal repeated_pair) (file other m more) ≡ file kind n entries
        → (file other m more ≡ file kind n entries) × (repeated entries ≡ false)
    go true h x = let y : ◌≡◌ {A = ℕ} 0 1 = cc in let w : ⊥ = omega arith in absurd w
    go false h x = let q : more ≡ entries = cc in (x, subst (λ (es : List Entry). repeated es ≡ false) q h)

-- the text of pairs, by the match
pairs_text_lem : (g : CostGraph) → graph_text Pairs g ≡ pairs_text g.pattern.n (hungarian_match g).matched (hungarian_match g).perm
unfolding graph_text form_text
pairs_text_lem g = refl

module _ (input : List ℕ) {kind : Kind} {n : ℕ} {entries : List Entry} (e : file_of input ≡ file kind n entries) where
  abbrev g : CostGraph
  g = entries_graph kind n entries

  abbrev m : Matching
  m = hungarian_match g

  reportable : Reportable g (replicate output_length 0)
  unfolding file_of
  reportable =
      let o = once_read (reading_of input) e in
      has_text kind (entries_sound input o.0 (length-replicate {A = ℕ} output_length 0)) o.1

  ranged : LargestMatch g.pattern m
  ranged = (match_optimal g reportable.accepted reportable.whole_costs).ranged

  text_is : answer_text Pairs input ≡ pairs_text g.pattern.n m.matched m.perm
  unfolding answer_text text_of
  text_is = ap (text_of Pairs) e ∙ pairs_text_lem g

  read : file_of (answer_text Pairs input) ≡ file Pattern g.pattern.n (pair_entries g.pattern.n m.perm)
  read =
      ap file_of (text_is ∙ ap (λ (k : ℕ). pairs_text g.pattern.n k m.perm) (sym (ranged_counted reportable.few ranged)))
      ∙ read_again g.pattern.n m.perm (ranged_rows ranged reportable.few)

  same_text : answer_text Pairs (answer_text Pairs input) ≡ answer_text Pairs input
  unfolding answer_text text_of
  same_text =
      ap (text_of Pairs) read
      ∙ pairs_text_lem (pair_graph g.pattern.n m.perm)
      ∙ ap₂ (λ (k : ℕ) (perm : List ℕ). pairs_text g.pattern.n k perm) (count_again reportable.few ranged) (match_again reportable.few ranged)
      ∙ sym text_is

  pub pairs_again : ReadAgain kind n entries (answer_text Pairs input)
  pairs_again =
      let order : g.pattern.n ≡ n = order_is kind n (map entry_row entries) (map entry_column entries) (map entry_weight entries) in
      record {
        pairs = subst (λ (k : ℕ). file_of (answer_text Pairs input) ≡ file Pattern k (pair_entries k m.perm)) order read;
        rows = subst (λ (k : ℕ). file_rows Pattern k (pair_entries k m.perm) ≡ m.perm) order (match_again reportable.few ranged);
        same = same_text;
      }

-- ---- as it is left in the output
-- a text that was written over the front stands there
front : (old text : List ℕ) → length text ≤ length old → take (length text) (sets old 0 text) ≡ text
front old text h = ap (take (length text)) (sets-eq text old 0 (omega arith)) ∙ take_at text _ (length text) refl

pub again : (form : Form) (count : ℕ) (buffer old : List ℕ) {r : ℕ} {out : List ℕ} → report_answer r out ≡ report_written
    (answer_text form (take count buffer)) old → r ≤ length old → Again form count buffer (report_answer r out)
again form count buffer old {r} {out} e h kind n entries q f =
    let text : List ℕ = answer_text form (take count buffer) in
    let l : r ≡ length text = ap (λ (a : ReportAnswer). a.length) e in
    let o : out ≡ sets old 0 text = ap (λ (a : ReportAnswer). a.output) e in
    let left : take r out ≡ text = rw (l, o) (front old text (rw l at h)) in
    subst (ReadAgain kind n entries) (sym (left ∙ ap (λ (x : Form). answer_text x (take count buffer)) q)) (pairs_again (take count buffer) f)
