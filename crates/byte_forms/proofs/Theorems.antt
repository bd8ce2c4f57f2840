-- Which numbers the match and the log factors as bytes answer, for any bytes: those of the native calls; the unsymmetric one never gives 10.
use mathlib.Core.Path.{◌≡◌, refl, sym, subst}
use mathlib.Core.Bool.{Bool, true, ◌&&◌}
use mathlib.Core.List.{List}
use Prim.Native.Nat.{ℕ, zero, suc, ◌*◌}
use lib.Dec.{eqb, leb}
use lib.ListN.{length}
use Rattle.refusal.specs.Refusal.{too_many_columns, too_many_entries, slice_length}
use Rattle.refusal.specs.Listed.{listed, graph_numbers, log_factor_numbers, unsymmetric_numbers}
use Rattle.slices.specs.Outcome.{refusing, as_number, Outcome}
use Rattle.sparse.proofs.Listed.{Listed, test, or_listed, within, part}
use Rattle.sparse.proofs.Theorems.{size_numbers}
use Rattle.sparse.specs.Fault.{or_else}
use Rattle.hungarian_match.proofs.Tests.{match_listed}
use Rattle.factors_mc64.proofs.Theorems.{matching_listed}
use Rattle.factors_mc64.specs.Calls.{matching_fault}
use Rattle.byte_numbers.specs.Bytes.{doubles}
use Rattle.byte_forms.specs.MatchBytes.{GraphBytes, MatchBytes, byte_columns, byte_entries, word_count, byte_lengths, byte_sizes, graph_read, result_by}
use Rattle.byte_forms.specs.MatchBytes.{bytes_fault, match_bytes_result}
use Rattle.byte_forms.specs.FactorBytes.{factor_bytes, factor_sizes, cache_read, factors_laid, symmetric_sizes, log_factors_bytes, sides_laid, side_sizes}
use Rattle.byte_forms.specs.FactorBytes.{unsymmetric_bytes, FactorBytes}

sizes_listed : (n u v cmax factors : ℕ) (others : Bool) → Listed unsymmetric_numbers (factor_sizes n u v cmax factors others)
unfolding listed factor_sizes
sizes_listed n u v cmax factors others =
    or_listed (test (leb n byte_columns) too_many_columns refl refl)
    (test (eqb u (8 * n) && (eqb v (8 * n) && (eqb cmax (8 * n) && (eqb factors (8 * n) && others)))) slice_length refl refl)

-- the number of a call is its fault
numbered : {l : List ℕ} (fault : ℕ) (done : Outcome ℕ FactorBytes) (before : FactorBytes) → done.answer ≡ 0 → Listed l fault
    → Listed l (refusing as_number fault done before).answer
numbered {l} zero done before z p = subst (Listed l) (sym z) p
numbered (suc fault) done before z p = p

pub log_factors_bytes_listed : (n matched : ℕ) (perm u v cmax factors unmatched : List ℕ)
    → Listed log_factor_numbers (log_factors_bytes n matched perm u v cmax factors unmatched).answer
unfolding listed within log_factors_bytes symmetric_sizes factors_laid
log_factors_bytes_listed n matched perm u v cmax factors unmatched =
    numbered (or_else (symmetric_sizes n perm u v cmax factors unmatched) (matching_fault n matched (cache_read n perm u v cmax).perm))
    (factors_laid n matched (cache_read n perm u v cmax)) (factor_bytes factors unmatched) refl
    (or_listed
    (part unsymmetric_numbers
    (sizes_listed n (length u) (length v) (length cmax) (length factors) (eqb (length perm) (4 * n) && eqb (length unmatched) 4)) refl)
    (matching_listed n matched (cache_read n perm u v cmax).perm))

pub unsymmetric_bytes_listed : (n : ℕ) (u v cmax rows columns : List ℕ) → Listed unsymmetric_numbers (unsymmetric_bytes n u v cmax rows columns).answer
unfolding unsymmetric_bytes side_sizes sides_laid
unsymmetric_bytes_listed n u v cmax rows columns =
    numbered (side_sizes n u v cmax rows columns) (sides_laid n (doubles u n) (doubles v n) (doubles cmax n)) (factor_bytes rows columns) refl
    (sizes_listed n (length u) (length v) (length cmax) (length rows) (eqb (length columns) (8 * n)))

-- ---- the match
byte_sizes_listed : (n col_ptr rows cost perm u v answer : ℕ) → Listed size_numbers (byte_sizes n col_ptr rows cost perm u v answer)
unfolding listed byte_sizes
byte_sizes_listed n col_ptr rows cost perm u v answer =
    or_listed (test (leb n byte_columns) too_many_columns refl refl)
    (or_listed (test (leb (word_count rows) byte_entries) too_many_entries refl refl)
    (test (byte_lengths n col_ptr rows cost perm u v answer) slice_length refl refl))

pub match_bytes_listed : (b : GraphBytes) (old : MatchBytes) → Listed graph_numbers (match_bytes_result b old).answer
unfolding listed within match_bytes_result bytes_fault result_by
match_bytes_listed b old = go (bytes_fault b old) fault
  where
    fault : Listed graph_numbers (bytes_fault b old)
    fault =
        or_listed
        (part size_numbers
        (byte_sizes_listed b.n (length b.col_ptr) (length b.rows) (length b.cost) (length old.perm) (length old.u)
        (length old.v) (length old.answer)) refl)
        (match_listed (graph_read b) true)

    go : (f : ℕ) → Listed graph_numbers f → Listed graph_numbers (result_by f (graph_read b) old).answer
    go zero p = p
    go (suc f) p = p
