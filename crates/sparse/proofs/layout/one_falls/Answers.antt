-- `layout::one_falls` meets its contract: the code's test of a place is the definition's, and every place is tested.
use Rattle.std.proofs.Common.{◌≡◌, ℕ, suc, ◌+◌, Bool, true, false, not, ltb, List, get_or, refl, arith}
use native.Mathlib.Numerals.{add-one}
use borrow.Author.Tests.{ltb-true, ltb-false, lt-leb, le-leb}
use Rattle.refusal.specs.Refusal.{column_pointers}
use Rattle.sparse.specs.Fault.{unless}
use Rattle.sparse.specs.Validate.{fall_at}
use Rattle.sparse.proofs.First.{gather, gathered}
use Rattle.sparse.proofs.layout.one_falls.Goals as goal

falls-here : (col_ptr : List ℕ) (j : ℕ) → fall_at col_ptr j ≡ unless (not (ltb (get_or col_ptr (j + 1) 0) (get_or col_ptr j 0))) column_pointers
falls-here col_ptr j = rw (add-one j) (go (ltb (get_or col_ptr (suc j) 0) (get_or col_ptr j 0)) refl)
  where
    go : (falls : Bool) → ltb (get_or col_ptr (suc j) 0) (get_or col_ptr j 0) ≡ falls → fall_at col_ptr j ≡ unless (not falls) column_pointers
    go true e = rw (lt-leb _ _ (ltb-true _ _ e)) refl
    go false e = rw (le-leb _ _ (ltb-false _ _ e)) refl

pub loop-j-preserved : goal.loop-j-preserved
loop-j-preserved c =
    let a = c.args in let l = c.loop-j in
    gather _ _ (fall_at a.col_ptr.now) a.n l.j l.fell _ (omega arith) (omega arith) (falls-here a.col_ptr.now l.j) l.invariant

pub returns : goal.returns
returns c =
    let a = c.args in let l = c.loop-j in
    gathered _ _ (fall_at a.col_ptr.now) a.n l.j l.fell (omega arith) l.invariant
