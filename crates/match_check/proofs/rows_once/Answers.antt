-- `rows_once` meets its contract: a mark that is clear says that the row is fresh.
use lib.ListN.{length-replicate}
use Rattle.std.proofs.Common.{Bool, List, ◌≡◌, ◌∙◌, ap, replicate, ℕ, length, get_or, ◌+◌, ◌<◌, ◌&&◌, sym, subst, arith}
use Rattle.match_check.specs.Check.{row_fresh, rows_once}
use Rattle.match_check.proofs.Every.{Every, every_begins, every_goes_on, every_all}
use Rattle.match_check.proofs.Marks.{Marked, marks_begin, marks_go_on, clear_is, row_in}
use Rattle.match_check.proofs.rows_once.Goals as goal

-- there is a mark for each row that a graph may have
places : (seen old : List ℕ) → length seen ≡ length old → old ≡ replicate 4096 0 → length seen ≡ 4096
places seen old e o = e ∙ ap length o ∙ length-replicate {A = ℕ} 4096 0

pub loop-row-init : goal.loop-row-init
loop-row-init c = let perm = c.args.perm.now in record {
  marks = subst (Marked perm 0) (sym c.requires.perm_len_bound.1) (marks_begin perm 4096);
  test = every_begins (row_fresh perm) 0 (length perm);
}

pub bounds-seen-row : goal.bounds-seen-row
bounds-seen-row c = let p = c.requires in
    omega (arith, row_in c.args.perm.now p.t p.perm_len_bound.0 c.loop-row.row-index (omega arith), places _ _ c.loop-row.auto.seen p.perm_len_bound.1)

pub bounds-seen-row-in-loop-row : goal.bounds-seen-row-in-loop-row
bounds-seen-row-in-loop-row c = let p = c.requires in
    omega (arith, row_in c.args.perm.now p.t p.perm_len_bound.0 c.loop-row.row-index (omega arith), places _ _ c.loop-row.auto.seen p.perm_len_bound.1)

pub loop-row-preserved : goal.loop-row-preserved
loop-row-preserved c =
    let p = c.requires in
    let perm = c.args.perm.now in
    let l = c.loop-row in
    let row = get_or perm l.row-index 0 in
    let b : row < length l.seen = omega (arith, row_in perm p.t p.perm_len_bound.0 l.row-index (omega arith), places _ _ l.auto.seen p.perm_len_bound.1) in
    record {
      marks = marks_go_on perm l.row-index l.seen b l.invariant.marks;
      test = subst (λ (t : Bool). Every (row_fresh perm) 0 (length perm) (l.fine && t) (l.row-index + 1))
          (sym (clear_is perm l.row-index l.seen l.invariant.marks row b))
          (every_goes_on (row_fresh perm) 0 (length perm) l.fine l.row-index (omega arith) l.invariant.test);
    }

pub returns : goal.returns
unfolding rows_once
returns c = let perm = c.args.perm.now in let l = c.loop-row in
    every_all (row_fresh perm) (length perm) l.fine l.row-index (omega arith) l.invariant.test
