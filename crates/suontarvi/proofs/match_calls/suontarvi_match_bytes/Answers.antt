-- A fault of the sizes is the answer, else the answer is the graph's.
use Rattle.std.proofs.Common.{◌∙◌, refl, sym}
use Rattle.refusal.proofs.Numbers.{number_ne_zero}
use Rattle.byte_forms.specs.MatchBytes.{graph_bytes, match_bytes}
use Rattle.byte_forms.proofs.ByteMatches.{unsized, sizes_fit, sized}
use Rattle.suontarvi.proofs.ByteResults.{match_number_lem}
use Rattle.suontarvi.proofs.match_calls.suontarvi_match_bytes.Goals as goal

pub returns-in-Err : goal.returns-in-Err
returns-in-Err c =
    match_number_lem _ _ (unsized _ _ (c.from.ensures ∙ c.in-Err.ensures)
    (λ z. number_ne_zero c.in-Err.refusal (sym c.from.ensures ∙ z)))

pub read_and_match-requires-clause-sized : goal.read_and_match-requires-clause-sized
read_and_match-requires-clause-sized c =
    let a = c.args in
    (sizes_fit (graph_bytes a.n a.col_ptr.now a.row_idx.now a.cost.now) (match_bytes a.perm.now a.u.now a.v.now a.answer.now)
    c.in_default.ensures refl).0

pub read_and_match-requires-clause-roomy : goal.read_and_match-requires-clause-roomy
read_and_match-requires-clause-roomy c =
    let a = c.args in
    (sizes_fit (graph_bytes a.n a.col_ptr.now a.row_idx.now a.cost.now) (match_bytes a.perm.now a.u.now a.v.now a.answer.now)
    c.in_default.ensures refl).1

pub returns : goal.returns
returns c = match_number_lem _ _ (sized _ _ c.in_default.ensures refl (rw c.answer.ensures c.read_and_match.ensures))
