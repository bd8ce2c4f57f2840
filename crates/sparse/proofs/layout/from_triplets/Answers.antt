-- `layout::from_triplets` meets its contract: what the tests leave is what the assembly asks for.
use Rattle.std.proofs.Common.{◌≡◌, Bool, cond, not, eqb, ◌∙◌}
use Rattle.std.proofs.lemmas.Result.{err_from_is_err_and}
use borrow.Author.Tests.{ne_eqb, eq-eqb}
use Rattle.limits.specs.Limits.{max_general, max_symmetric}
use Rattle.refusal.proofs.Numbers.{number_ne_zero}
use Rattle.triplets.specs.Built.{triplets, slices}
use Rattle.sparse.proofs.Triplets.{refused, accepted, sizes_found, indices_found, paired, assembles}
use Rattle.sparse.proofs.Theorems.{triplet_fault_listed}
use Rattle.sparse.proofs.layout.from_triplets.Given.{Over}
use Rattle.sparse.proofs.layout.from_triplets.Goals.{then-this-ne0, else-this-ne0, After-triplet_sizes}
use Rattle.sparse.proofs.layout.from_triplets.Goals as goal

abbrev lower : Over → Bool
lower g = not (eqb g.row.LOWER 0)

limit_is : (g : Over) → (c : After-triplet_sizes g) → c.if-this-ne0.limit ≡ cond (lower g) max_symmetric max_general
limit_is g c =
    elim c.if-this-ne0.branch [
      | then-this-ne0 w ↦ w.limit-is ∙ rw (ne_eqb g.row.LOWER 0 w.if-this-ne0.true)
      | else-this-ne0 w ↦ w.limit-is ∙ rw (eq-eqb g.row.LOWER 0 w.if-this-ne0.false)
    ]

pub returns-in_err-triplet_sizes : goal.returns-in_err-triplet_sizes
returns-in_err-triplet_sizes g c =
    let a = c.args in
    let t = triplets a.rows.now a.cols.now a.vals.now in
    let s = slices a.col_ptr.now a.row_idx.now a.values.now a.work.now in
    let p = err_from_is_err_and c.from_residual.result c.from_residual.ensures.1 in
    let limit = limit_is g (goal.at.returns-in_err-triplet_sizes g c).After-triplet_sizes in
    let found = sizes_found (lower g) a.n t s limit c.in_err-triplet_sizes.ensures (number_ne_zero _) in
    let q = refused a.n t s _ _ (triplet_fault_listed a.n t s (lower g)) found in
    rw (p.1, p.2) (record { outcome = q.outcome_lem; answered = q.answered; number = q.number_lem })

pub triplets_fault-requires : goal.triplets_fault-requires
triplets_fault-requires g c =
    let a = c.args in
    paired (lower g) a.n (triplets a.rows.now a.cols.now a.vals.now) (slices a.col_ptr.now a.row_idx.now a.values.now a.work.now)
    (limit_is g (goal.at.triplets_fault-requires g c).After-triplet_sizes) c.in_ok-triplet_sizes.ensures

pub returns-in_err-triplets_fault : goal.returns-in_err-triplets_fault
returns-in_err-triplets_fault g c =
    let a = c.args in
    let t = triplets a.rows.now a.cols.now a.vals.now in
    let s = slices a.col_ptr.now a.row_idx.now a.values.now a.work.now in
    let r = c.from_residual-in_err-triplets_fault in
    let p = err_from_is_err_and r.result r.ensures.1 in
    let limit = limit_is g (goal.at.returns-in_err-triplets_fault g c).After-triplet_sizes in
    let found = indices_found (lower g) a.n t s limit c.in_ok-triplet_sizes.ensures c.in_err-triplets_fault.ensures in
    let q = refused a.n t s _ _ (triplet_fault_listed a.n t s (lower g)) found in
    rw (p.1, p.2) (record { outcome = q.outcome_lem; answered = q.answered; number = q.number_lem })

pub assemble-requires : goal.assemble-requires
assemble-requires g c =
    let a = c.args in
    let q = assembles (lower g) a.n (triplets a.rows.now a.cols.now a.vals.now)
    (slices a.col_ptr.now a.row_idx.now a.values.now a.work.now)
    (limit_is g (goal.at.assemble-requires g c).After-triplet_sizes) c.in_ok-triplet_sizes.ensures c.in_ok-triplets_fault.ensures in
    record { sized = q.0; roomy = q.1 }

pub returns : goal.returns
returns g c =
    let a = c.args in
    let t = triplets a.rows.now a.cols.now a.vals.now in
    let s = slices a.col_ptr.now a.row_idx.now a.values.now a.work.now in
    let limit = limit_is g (goal.at.returns g c).After-triplet_sizes in
    let none = indices_found (lower g) a.n t s limit c.in_ok-triplet_sizes.ensures c.in_ok-triplets_fault.ensures in
    let q = accepted a.n t s _ c.assemble.result _ (triplet_fault_listed a.n t s (lower g)) none c.assemble.ensures in
    record { outcome = q.outcome_lem; answered = q.answered; number = q.number_lem }
