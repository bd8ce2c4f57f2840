-- `scan` meets its contract: each turn searches an entry.
use Rattle.std.proofs.Common.{ℕ, ◌≤◌, ◌<◌, get_or, subst}
use native.Mathlib.Numerals.{add-one}
use Rattle.match_largest.proofs.Sweeps.{scan_ends, entry_within, step}
use Rattle.match_largest.proofs.scan.Goals as goal

pub bounds-row_idx-k : goal.bounds-row_idx-k
bounds-row_idx-k c = let p = c.requires.accepted_pattern_1 in let l = c.loop-k in let a = c.args in
    entry_within p.few p.columns l.invariant
    (subst (λ (m : ℕ). l.k < get_or a.col_ptr.now m 0) (add-one (get_or a.queue.now a.head 0)) c.loop-k-test.true)

pub loop-k-preserved : goal.loop-k-preserved
loop-k-preserved c = let p = c.requires.accepted_pattern_1 in let l = c.loop-k in let a = c.args in
    rw c.from-last.ensures
    (step p.few p.columns l.invariant
    (subst (λ (m : ℕ). l.k < get_or a.col_ptr.now m 0) (add-one (get_or a.queue.now a.head 0)) c.loop-k-test.true))

pub returns : goal.returns
returns c = let a = c.args in
    scan_ends c.loop-k.invariant
    (subst (λ (m : ℕ). get_or a.col_ptr.now m 0 ≤ c.loop-k.k) (add-one (get_or a.queue.now a.head 0)) c.loop-k-test.false)
