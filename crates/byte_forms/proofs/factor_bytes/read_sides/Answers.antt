-- Each turn of the loop lays down one factor more in each slice; after the last all are laid down.
use Rattle.std.proofs.Common.{◌≡◌, ◌∙◌, ◌<◌, sym, ap, ap₂, List, ℕ, Float, arith}
use Rattle.std.specs.Float.{binary64}
use Rattle.std.specs.Float.Ieee.{sub}
use Rattle.slices.specs.Outcome.{outcome_is}
use Rattle.factors_mc64.specs.Factors.{held}
use Rattle.byte_numbers.proofs.Words.{double_at_lem}
use Rattle.byte_forms.specs.FactorBytes.{factor_bytes, sides_laid}
use Rattle.byte_forms.proofs.ByteFactors.{row_at, column_at, laid_none, laid_more, laid_all}
use Rattle.byte_forms.proofs.factor_bytes.read_sides.Goals as goal

pub loop-i-init : goal.loop-i-init
loop-i-init c =
    let a = c.args in
    record {
      row_room = c.requires.row_factors_len.0;
      column_room = c.requires.row_factors_len.1;
      rows = laid_none (row_at a.n a.u.now) a.n _;
      columns = laid_none (column_at a.n a.v.now a.cmax.now) a.n _;
    }

pub loop-i-preserved : goal.loop-i-preserved
loop-i-preserved c =
    let a = c.args in
    let i = c.loop-i.i in
    let before = c.loop-i.invariant in
    let h : i < a.n = c.loop-i-test.true in
    record {
      row_room = c.put_double.auto.out ∙ before.row_room;
      column_room = c.put_double-in-loop-i.auto.out ∙ before.column_room;
      rows = c.put_double.ensures ∙ laid_more (row_at a.n a.u.now) a.n _ i _ h before.row_room before.rows
          (c.hold.ensures ∙ ap held (c.get_double-row.ensures ∙ sym (double_at_lem a.u.now a.n i h)));
      columns = c.put_double-in-loop-i.ensures
          ∙ laid_more (column_at a.n a.v.now a.cmax.now) a.n _ i _ h before.column_room before.columns
          (c.hold-in-loop-i.ensures ∙ ap₂ (λ (x y : Float). held (sub binary64 x y))
          (c.get_double.ensures ∙ sym (double_at_lem a.v.now a.n i h))
          (c.get_double-in-loop-i.ensures ∙ sym (double_at_lem a.cmax.now a.n i h)));
    }

pub returns : goal.returns
unfolding sides_laid
returns c =
    let a = c.args in
    let l = c.loop-i in
    let e : l.i ≡ a.n = omega arith in
    ap₂ (λ (x y : List ℕ). outcome_is 0 (factor_bytes x y))
    (l.invariant.rows ∙ laid_all (row_at a.n a.u.now) a.n _ l.i e c.requires.row_factors_len.0)
    (l.invariant.columns ∙ laid_all (column_at a.n a.v.now a.cmax.now) a.n _ l.i e c.requires.row_factors_len.1)
