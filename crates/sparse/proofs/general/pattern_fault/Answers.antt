-- `general::pattern_fault` meets its contract: each return is the first fault of the chain.
use Rattle.std.proofs.Common.{◌≡◌, ℕ, ◌+◌, Bool, true, List, length, refl, sym}
use Rattle.std.proofs.lemmas.Result.{err_from_is_err_and}
use Rattle.limits.specs.Limits.{max_general}
use Rattle.refusal.proofs.Numbers.{number_ne_zero}
use Rattle.sparse.specs.Validate.{size_fault, pattern_fault}
use Rattle.sparse.proofs.First.{answer_first, answer_second}
use Rattle.sparse.proofs.Accepted.{sizes_accepted, pointers_accepted}
use Rattle.sparse.proofs.general.pattern_fault.Goals as goal

-- the slices have their lengths where the sizes pass
fits : (n count : ℕ) (col_ptr : List ℕ) (lengths : Bool) → (lengths ≡ true → length col_ptr ≡ n + 1) → 0 ≡ size_fault n max_general count lengths
    → length col_ptr ≡ n + 1
fits n count col_ptr lengths told none = told ((sizes_accepted n max_general count lengths).0 (sym none)).2

pub returns-in_err-size_fault : goal.returns-in_err-size_fault
unfolding pattern_fault
returns-in_err-size_fault c =
    let p = err_from_is_err_and c.from_residual.result c.from_residual.ensures.1 in
    rw (p.1, p.2) (answer_first _ c.in_err-size_fault.ensures (number_ne_zero _))

pub pointer_fault-requires : goal.pointer_fault-requires
pointer_fault-requires c = fits _ _ _ _ c.requires c.in_ok-size_fault.ensures

pub returns-in_err-pointer_fault : goal.returns-in_err-pointer_fault
unfolding pattern_fault
returns-in_err-pointer_fault c =
    let r = c.from_residual-in_err-pointer_fault in
    let p = err_from_is_err_and r.result r.ensures.1 in
    rw (p.1, p.2)
    (answer_second c.in_ok-size_fault.ensures refl (answer_first _ c.in_err-pointer_fault.ensures (number_ne_zero _)))

pub columns_fault-requires : goal.columns_fault-requires
columns_fault-requires c =
    let a = c.args in
    record {
      col_ptr_len = fits _ _ _ _ c.requires c.in_ok-size_fault.ensures;
      pointers = (pointers_accepted a.n a.col_ptr.now (length a.row_idx.now)).0 (sym c.in_ok-pointer_fault.ensures);
    }

pub returns : goal.returns
unfolding pattern_fault
returns c =
    answer_second c.in_ok-size_fault.ensures refl (answer_second c.in_ok-pointer_fault.ensures refl c.columns_fault.ensures)
