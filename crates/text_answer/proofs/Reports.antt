-- The match of a graph that has a text: what is left of it can be printed, and is the definition's text.
use mathlib.Core.Path.{◌≡◌, refl}
use mathlib.Core.List.{List}
use Prim.Native.Nat.{ℕ}
use native.Mathlib.Nat.{le_trans}
use native.Mathlib.Omega.{arith}
use lib.ListN.{length}
use lib.Seq.{sets}
use lib.Ieee.{Float}
use Rattle.hungarian.specs.Graph.{CostGraph}
use Rattle.hungarian.proofs.Theorems.{match_optimal, match_small}
use Rattle.hungarian.specs.declared.Counts.{Counts}
use Rattle.hungarian_match.specs.Call.{Slices, counts_of}
use Rattle.hungarian_match.specs.inner.Steps.{Solved}
use Rattle.hungarian_match.proofs.Callers.{solved_found}
use Rattle.text_report.specs.declared.Form.{Form}
use Rattle.text_report.specs.Form.{form_text}
use Rattle.text_report.specs.inner.Steps.{AllPrintable}
use Rattle.text_answer.specs.Answer.{report_answer, report_written, graph_text}
use Rattle.text_answer.specs.inner.Steps.{Reportable}

module _ {g : CostGraph} {before after : Slices} {m : Counts} {old : List ℕ} (R : Reportable g old) (S : Solved g before after m) where
  -- u, v and perm as they are lent on are what is left
  pub rows_printable : {u : List Float} → u ≡ after.u → AllPrintable g.pattern.n u
  rows_printable e k h = rw (e, S.u) (record {
    is_whole = (match_optimal g R.accepted R.whole_costs).rows_whole k h;
    small = le_trans ((match_small g R.accepted R.whole_costs).rows k h) (omega arith);
  })

  pub columns_printable : {v : List Float} → v ≡ after.v → AllPrintable g.pattern.n v
  columns_printable e k h = rw (e, S.v) (record {
    is_whole = (match_optimal g R.accepted R.whole_costs).columns_whole k h;
    small = le_trans ((match_small g R.accepted R.whole_costs).columns k h) (omega arith);
  })

  -- the text of what is left
  pub text_is : (form : Form) {perm counts : List ℕ} {u v : List Float} → perm ≡ after.perm → u ≡ after.u → v ≡ after.v → counts ≡ counts_of m
      → form_text form g.pattern.n perm u v counts ≡ graph_text form g
  unfolding graph_text
  text_is form p a b c = rw (p, a, b, c, solved_found S, S.perm, S.u, S.v) refl

-- a text that is written, by its bytes and its length
pub wrote : {r : ℕ} {out text text' : List ℕ} (old : List ℕ) → text ≡ text' → out ≡ sets old 0 text → r ≡ length text
    → report_answer r out ≡ report_written text' old
wrote old t e l = rw (← t, e, l) refl
