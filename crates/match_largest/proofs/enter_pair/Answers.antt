-- `enter_pair` meets its contract: each return is one of the four cases of a column.
use Rattle.match_check.proofs.Columns.{rises, within}
use Rattle.match_largest.proofs.Entering.{enters_twice, enters_pair}
use Rattle.match_largest.proofs.enter_pair.Goals as goal

pub returns-then-inverse-row-clause-result_value : goal.returns-then-inverse-row-clause-result_value
returns-then-inverse-row-clause-result_value c = let p = c.requires in let a = c.args in
    (enters_twice p.j_lt_n_2 p.accepted_pattern_1.few p.j_lt_n_1 a.col_ptr.now a.row_idx.now c.if-perm-j.false
    c.if-row-n.false c.if-inverse-row.true).0

pub has_row-requires : goal.has_row-requires
has_row-requires c = let p = c.requires in
    (rises p.accepted_pattern_1 c.args.j p.j_lt_n_1, within p.accepted_pattern_1 c.args.j p.j_lt_n_1)

pub returns-clause-result_value : goal.returns-clause-result_value
returns-clause-result_value c = let p = c.requires in let a = c.args in
    (enters_pair p.j_lt_n_2 p.accepted_pattern_1.few p.j_lt_n_1 a.col_ptr.now a.row_idx.now c.if-perm-j.false
    c.if-row-n.false c.if-inverse-row.false c.has_row.ensures).0
