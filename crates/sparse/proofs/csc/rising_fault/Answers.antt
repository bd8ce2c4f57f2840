-- `csc::rising_fault` meets its contract: the pair of rows that ends at place k falls, or it rises.
use Rattle.std.proofs.Common.{◌≡◌, ◌+◌, ◌-◌, pred, refl, subst, arith}
use Rattle.sparse.specs.Validate.{rising_pair, rising_column}
use Rattle.sparse.proofs.First.{Passed, pass, found, done}
use Rattle.sparse.proofs.Entries.{pair_falls, pair_rises}
use Rattle.sparse.proofs.csc.rising_fault.Goals as goal

pub loop-k-init : goal.loop-k-init
unfolding rising_column
loop-k-init c =
    let a = c.args in
    let first : a.from + 1 - 1 ≡ a.from = omega arith in
    rw first refl

pub returns-then-row_idx-k : goal.returns-then-row_idx-k
returns-then-row_idx-k c =
    let l = c.loop-k in
    found _ _ (l.k - 1) l.invariant (omega arith) (pair_falls c.args.row_idx.now l.k (omega arith) c.if-row_idx-k.true) (omega arith)

pub loop-k-preserved : goal.loop-k-preserved
loop-k-preserved c =
    let a = c.args in let l = c.loop-k in
    let next : l.k - 1 + 1 ≡ l.k + 1 - 1 = omega arith in
    subst (Passed (rising_column a.row_idx.now a.from a.to) (rising_pair a.row_idx.now) (pred a.to)) next
    (pass _ _ (l.k - 1) l.invariant (omega arith) (pair_rises a.row_idx.now l.k (omega arith) c.if-row_idx-k.false))

pub returns : goal.returns
returns c = done _ _ (c.loop-k.k - 1) c.loop-k.invariant (omega arith)
