-- `count_pairs` meets its contract: each turn counts one more column.
use Rattle.std.proofs.Common.{◌≡◌, ℕ, ◌+◌, length, get_or, not, eqb, sym, ap, ◌∙◌, arith}
use mir.Val.{bool_byte}
use Rattle.limits.specs.Limits.{none}
use Rattle.matching.specs.Sum.{sum_to, or_zero}
use Rattle.matching.specs.Pairing.{matched_count}
use Rattle.match_largest.specs.Marks.{row_at}
use Rattle.match_largest.proofs.Queueing.{byte_most, count_few, count_more, counted_none}
use Rattle.match_largest.proofs.count_pairs.Goals as goal

pub loop-row-init : goal.loop-row-init
loop-row-init c = counted_none (λ j. not (eqb (row_at c.args.perm.now j) none))

pub overflow_add-count : goal.overflow_add-count
overflow_add-count c = let a = c.args in let l = c.loop-row in
    omega (
      arith,
      c.requires,
      l.invariant,
      count_few l.row-index (λ j. not (eqb (row_at a.perm.now j) none)),
      c.from-count.ensures,
      byte_most (not (eqb (get_or a.perm.now l.row-index 0) none)),
    )

pub loop-row-preserved : goal.loop-row-preserved
loop-row-preserved c = let a = c.args in let l = c.loop-row in
    rw c.from-count.ensures
    (ap (λ (m : ℕ). m + bool_byte (not (eqb (get_or a.perm.now l.row-index 0) none))) l.invariant
    ∙ sym (count_more l.row-index (λ j. not (eqb (row_at a.perm.now j) none))))

pub returns : goal.returns
unfolding matched_count
returns c = let a = c.args in let l = c.loop-row in
    l.invariant ∙ ap (λ (m : ℕ). sum_to m (λ j. or_zero (not (eqb (row_at a.perm.now j) none)) 1))
    (let e : l.row-index ≡ length a.perm.now = omega arith in e)
