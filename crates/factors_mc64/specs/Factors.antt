-- SPECIFICATION 7.1 and 7.2: Log factors: the Rust's scaling factors before `exp`. Symmetric (`scaling_from_cache`):
-- one for a row and its column. Unsymmetric: one for each row and each column.
use Rattle.std.specs.Prelude.{Bool, false, not, cond, ◌&&◌, ◌||◌, List, [], ◌∷◌, ◌++◌, ℕ, zero, suc, eqb, get_or, Float}
use Rattle.std.specs.Float.{nan, binary64}
use Rattle.std.specs.Float.Ieee.{add, sub, div, is_nan}
use Rattle.std.specs.Float.Ieee.Scale.{finite}
use Rattle.limits.specs.Limits.{none}
use Rattle.float64.specs.Constants.{two, zero as fzero}
use Rattle.float64.specs.Functions.{clamp_log}
use Rattle.matching.specs.Match.{Match}

-- f 0, f 1 and so on, n of them
unfoldable pub doubles_of : (ℕ → Float) → ℕ → List Float
doubles_of f zero = []
doubles_of f (suc i) = doubles_of f i ++ (f i ∷ [])

-- ---- symmetric
-- whether row i is among the first k of perm
unfoldable pub is_matched_row : List ℕ → ℕ → ℕ → Bool
is_matched_row perm i zero = false
is_matched_row perm i (suc k) = is_matched_row perm i k || eqb (get_or perm k 0) i

-- whether column i and row i, below n, are both matched
abbrev pub matched_both : ℕ → List ℕ → ℕ → Bool
matched_both n perm i = not (eqb (get_or perm i 0) none) && is_matched_row perm i n

-- left to right
abbrev pub argument : Float → Float → Float → Float
argument u v cmax = div binary64 (sub binary64 (add binary64 u v) cmax) two

-- 0.0 if cmax is not finite, or column or row is unmatched, or the argument is not finite; else the argument held to
-- -709..709
unfoldable pub log_factor : Bool → Float → Float → Float → Float
log_factor both u v cmax =
    cond (finite cmax && (both && finite (argument u v cmax))) (clamp_log (argument u v cmax)) fzero

abbrev pub factor_at : ℕ → Match Float → ℕ → Float
factor_at n c i = log_factor (matched_both n c.perm i) (get_or c.u i nan) (get_or c.v i nan) (get_or c.cmax i nan)

abbrev pub symmetric_factors : ℕ → Match Float → List Float
symmetric_factors n c = doubles_of (factor_at n c) n

-- ---- unsymmetric
-- x held to -709..709; a NaN gives 0.0
unfoldable pub held : Float → Float
held x = cond (is_nan x) fzero (clamp_log x)

abbrev pub row_factors : ℕ → List Float → List Float
row_factors n u = doubles_of (λ i. held (get_or u i nan)) n

abbrev pub column_factors : ℕ → List Float → List Float → List Float
column_factors n v cmax = doubles_of (λ j. held (sub binary64 (get_or v j nan) (get_or cmax j nan))) n
