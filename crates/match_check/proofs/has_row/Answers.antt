-- `has_row` meets its contract: each turn is one of the definition.
use Rattle.std.proofs.Common.{◌≡◌, ◌||◌, ℕ, eqb, ◌+◌, ◌-◌, ◌<◌, get_or, subst, arith}
use Rattle.match_check.proofs.Every.{Some, some_goes_on, some_ends}
use Rattle.match_check.proofs.Columns.{part_length, part_at}
use Rattle.match_check.proofs.has_row.Goals as goal

pub loop-entry-preserved : goal.loop-entry-preserved
loop-entry-preserved c =
    let a = c.args in
    let l = c.loop-entry in
    let list = a.row_idx.now in
    let h : l.entry-index < a.to - a.from = omega (arith, part_length list a.from a.to c.requires.0 c.requires.1) in
    let test = λ (k : ℕ). eqb (get_or list k 0) a.row in
    rw (part_at list a.from a.to c.requires.0 c.requires.1 l.entry-index 0 h)
    (subst (Some test a.from a.to (l.found || test (a.from + l.entry-index)))
    (let e : a.from + l.entry-index + 1 ≡ a.from + (l.entry-index + 1) = omega arith in e)
    (some_goes_on test a.from a.to l.found (a.from + l.entry-index) (omega arith) l.invariant))

pub returns : goal.returns
returns c = let a = c.args in let l = c.loop-entry in
    some_ends (λ k. eqb (get_or a.row_idx.now k 0) a.row) a.from a.to l.found (a.from + l.entry-index)
    (omega (arith, part_length a.row_idx.now a.from a.to c.requires.0 c.requires.1)) l.invariant
