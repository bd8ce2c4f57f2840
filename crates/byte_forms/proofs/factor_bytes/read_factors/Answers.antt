-- The pairs that were read are refused, or the factors are laid down. The parts of the local arrays are as read_all and
-- mark_rows left them.
use Rattle.std.proofs.Common.{◌≡◌, ◌∙◌, ℕ, List, refl, sym, ap, rules}
use Rattle.refusal.specs.Number.{number, number_of}
use Rattle.refusal.proofs.Numbers.{number_ne_zero}
use Rattle.matching.specs.Match.{match_of}
use Rattle.factors_mc64.specs.Factors.{symmetric_factors}
use Rattle.factors_mc64.specs.Calls.{matching_fault}
use Rattle.byte_numbers.specs.Bytes.{words, doubles, double_bytes}
use Rattle.byte_numbers.proofs.Words.{one_laid}
use Rattle.hungarian_match.proofs.LocalArrays.{part_again, part_holds}
use Rattle.byte_forms.proofs.ByteFactors.{pairs_fit_lem, array_unmarked, pairs_refused, pairs_laid}
use Rattle.byte_forms.proofs.factor_bytes.read_factors.Goals as goal

pub returns-in_err-matching_fault : goal.returns-in_err-matching_fault
unfolding words
returns-in_err-matching_fault c =
    let a = c.args in
    let e = c.in_err-matching_fault.field-0.0 in
    let same : number_of c.from_residual.result ≡ number e = search rules in
    let held = part_holds a.n 256 _ c.read_all.new.out c.requires.duals.columns c.read_all.auto.out
    (words a.perm.now) c.read_all.ensures in
    rw same (pairs_refused a.n a.matched a.perm.now a.u.now a.v.now a.cmax.now _ _
    (c.in_err-matching_fault.ensures ∙ ap (matching_fault a.n a.matched) held) (number_ne_zero e))

pub mark_rows-requires-clause-rows : goal.mark_rows-requires-clause-rows
mark_rows-requires-clause-rows c =
    let read = part_again c.args.n 256 _ c.read_all.new.out c.requires.duals.columns c.read_all.auto.out in
    (pairs_fit_lem _ _ _ read (sym c.in_ok-matching_fault.ensures)).1

pub mark_rows-requires-clause-marked : goal.mark_rows-requires-clause-marked
mark_rows-requires-clause-marked c = array_unmarked _ _ c.requires.duals.columns

pub overflow_sub-n : goal.overflow_sub-n
overflow_sub-n c =
    let read = part_again c.args.n 256 _ c.read_all.new.out c.requires.duals.columns c.read_all.auto.out in
    (pairs_fit_lem _ _ _ read (sym c.in_ok-matching_fault.ensures)).0

pub returns : goal.returns
unfolding words
returns c =
    let a = c.args in
    let held = part_holds a.n 256 _ c.read_all.new.out c.requires.duals.columns c.read_all.auto.out
    (words a.perm.now) c.read_all.ensures in
    pairs_laid a.n a.matched a.perm.now a.u.now a.v.now a.cmax.now _ _
    (c.in_ok-matching_fault.ensures ∙ ap (matching_fault a.n a.matched) held) refl
    (c.put_factors.ensures ∙ ap (λ (p : List ℕ). double_bytes (symmetric_factors a.n
    (match_of p (doubles a.u.now a.n) (doubles a.v.now a.n) (doubles a.cmax.now a.n)))) held)
    (c.put_u32.ensures ∙ one_laid _ _ c.requires.factors_len.1)
