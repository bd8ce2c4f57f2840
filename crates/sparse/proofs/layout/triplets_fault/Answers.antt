-- `layout::triplets_fault` meets its contract: each triplet has the fault that its tests say, or none.
use Rattle.std.proofs.Common.{◌≡◌, ℕ, ◌<◌, ◌≤◌, true, not, eqb, length, get_or, ◌⊎◌, inl, inr, arith}
use Rattle.std.proofs.lemmas.Bool.{false≢true}
use Rattle.std.proofs.lemmas.List.{length_push}
use Rattle.std.proofs.lemmas.Slice.Zip.{zip_turn, zip_end}
use borrow.Author.Tests.{ne_eqb, eq-eqb}
use Rattle.sparse.proofs.First.{pass, found, done}
use Rattle.sparse.proofs.Triplets.{triplet_out, triplet_above, triplet_right}
use Rattle.sparse.proofs.layout.triplets_fault.Given.{Over}
use Rattle.sparse.proofs.layout.triplets_fault.Goals.{In-Some}
use Rattle.sparse.proofs.layout.triplets_fault.Goals as goal

-- the triplet at hand
at_place : (g : Over) → (c : In-Some g) → let k = length c.loop-row.yielded in
    (k < length c.args.rows.now) × (c.in-Some.field-0-0.now ≡ get_or c.args.rows.now k 0) × (c.in-Some.field-0-1.now ≡ get_or c.args.cols.now k 0)
at_place g c =
    let t = zip_turn c.args.rows.now c.args.cols.now c.loop-row.yielded c.into_iter-row-iterator.result _
    c.next.new.self _ (cc) (cc) c.loop-row.yielded_by _ c.in-Some.is c.next.ensures.steps in
    (t.0, t.2 0, t.3 0)

-- a triplet is above the diagonal only where that is not tested
below : (lower row col : ℕ) → ((lower ≡ 0 → ⊥) × (col ≤ row)) ⊎ (lower ≡ 0) → not (eqb lower 0) ≡ true → col ≤ row
below lower row col (inl h) low = h.1
below lower row col (inr z) low = absurd (false≢true (rw (eq-eqb lower 0 z) at low))

pub returns-then-row-n : goal.returns-then-row-n
returns-then-row-n g c =
    let a = c.args in
    let p = at_place g (goal.at.returns-then-row-n g c).In-Some in
    found _ _ _ c.loop-row.invariant p.0 (triplet_out a.n a.rows.now a.cols.now _ p.1 p.2 _ c.then-row-n.either) (omega arith)

pub returns-then-row-col : goal.returns-then-row-col
returns-then-row-col g c =
    let a = c.args in
    let p = at_place g (goal.at.returns-then-row-col g c).In-Some in
    let low : not (eqb g.row.LOWER 0) ≡ true = rw (ne_eqb g.row.LOWER 0 c.if-this-ne0.true) in
    found _ _ _ c.loop-row.invariant p.0
    (triplet_above a.n a.rows.now a.cols.now _ p.1 p.2 _ low c.if-row-n.false c.if-col-n.false c.if-row-col.true) (omega arith)

pub loop-row-preserved : goal.loop-row-preserved
loop-row-preserved g c =
    let a = c.args in
    let p = at_place g (goal.at.loop-row-preserved g c).In-Some in
    rw length_push
    (pass _ _ _ c.loop-row.invariant p.0
    (triplet_right a.n a.rows.now a.cols.now _ p.1 p.2 _ (below g.row.LOWER _ _ c.else-this-ne0.either) c.if-row-n.false c.if-col-n.false))

pub returns : goal.returns
returns g c =
    let e = zip_end c.args.rows.now c.args.cols.now c.loop-row.yielded c.into_iter-row-iterator.result _
    c.next.new.self _ (cc) (cc) c.loop-row.yielded_by c.in-None.is c.next.ensures.steps in
    done _ _ _ c.loop-row.invariant (omega (arith, e, c.requires))
