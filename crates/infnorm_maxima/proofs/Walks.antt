-- The walks over entries and columns. Each loop keeps one equation: the whole walk is the walk from here on. The maximum of the column that is scanned
-- may be kept apart from the others, since an entry raises it in the same way.
use mathlib.Core.Path.{◌≡◌, refl, sym, ap, ◌∙◌}
use mathlib.Core.Bool.{Bool, true, false, cond}
use mathlib.Core.List.{List}
use mathlib.Core.Logic.{◌≢◌}
use Prim.Native.Nat.{ℕ, suc, ◌+◌, ◌-◌, ◌≤◌, ◌<◌}
use native.Mathlib.Decide.{ℕ_discrete}
use native.Mathlib.Nat.{sub-zero, le_trans}
use native.Mathlib.Numerals.{add-one}
use native.Mathlib.Omega.{arith}
use lib.Ieee.{Float, nan, lt}
use lib.ListN.{length, get_or, set, replicate, length-set}
use lib.Seq.{get_or-set_same, get_or-set_other, set-get_or, set-set, set_comm}
use Rattle.float64.specs.Constants as Constants
use Rattle.sparse.proofs.Accepted.{pointer_below}
use Rattle.sparse.specs.Pattern.{start, end}
use Rattle.sparse.specs.Matrix.{Matrix}
use Rattle.infnorm_factors.specs.Maxima.{larger, raise, enter, enter_column, enter_columns, row_maxima}
use Rattle.infnorm_maxima.specs.inner.Steps.{Accepted, Stretch}

-- ---- one entry
-- raising twice to one size is raising once
larger_again : (old new : Float) → larger (larger old new) new ≡ larger old new
larger_again old new = go (lt old new) refl
  where
    either : (b : Bool) → cond b new new ≡ new
    either true = refl
    either false = refl

    go : (b : Bool) → lt old new ≡ b → larger (cond b new old) new ≡ cond b new old
    go true e = either (lt new new)
    go false e = rw e refl

raised : (maxima : List Float) (j : ℕ) (top size : Float) → j < length maxima → raise (set maxima j top) j size ≡ set maxima j (larger top size)
unfolding raise
raised maxima j top size h = rw (get_or-set_same maxima j top nan h) (set-set maxima j top (larger top size))

raised_other : (maxima : List Float) (i j : ℕ) (top size : Float) → i ≢ j
    → raise (set maxima j top) i size ≡ set (set maxima i (larger (get_or maxima i nan) size)) j top
unfolding raise
raised_other maxima i j top size d = rw (get_or-set_other maxima j i top nan d) (sym (set_comm maxima i j (larger (get_or maxima i nan) size) top d))

-- the maximum of column j apart: it is put in its place before the entry, or after it
enter_apart : (maxima : List Float) (i j : ℕ) (top size : Float) → i < length maxima → j < length maxima
    → enter i j size (set maxima j top) ≡ set (set maxima i (larger (get_or maxima i nan) size)) j (larger top size)
enter_apart maxima i j top size I J = go (ℕ_discrete i j)
  where
    here : i ≡ j → enter i j size (set maxima j top) ≡ set (set maxima i (larger (get_or maxima i nan) size)) j (larger top size)
    here e =
        rw e
        (ap (λ (l : List Float). raise l j size) (raised maxima j top size J)
        ∙ raised maxima j (larger top size) size J
        ∙ ap (set maxima j) (larger_again top size)
        ∙ sym (set-set maxima j (larger (get_or maxima j nan) size) (larger top size)))

    go : Dec (i ≡ j) → enter i j size (set maxima j top) ≡ set (set maxima i (larger (get_or maxima i nan) size)) j (larger top size)
    go (yes e) = here e
    go (no d) =
        ap (λ (l : List Float). raise l j size) (raised_other maxima i j top size d)
        ∙ raised (set maxima i (larger (get_or maxima i nan) size)) j top size (rw (length-set maxima i (larger (get_or maxima i nan) size)) J)

-- ---- the entries of a column
module _ (size : ℕ → Float) (rows : List ℕ) (j : ℕ) where
  turn : (m count k : ℕ) (maxima : List Float) → m ≡ suc count
      → enter_column size rows j m k maxima ≡ enter_column size rows j count (suc k) (enter (get_or rows k 0) j (size k) maxima)
  unfolding enter_column
  turn m count k maxima e = rw e refl

  none : (m k : ℕ) (maxima : List Float) → m ≡ 0 → enter_column size rows j m k maxima ≡ maxima
  unfolding enter_column
  none m k maxima e = rw e refl

  -- the column's maximum is `top`, whatever stands in its place
  abbrev pub Scanned : List Float → ℕ → ℕ → List Float → Float → Type 0
  Scanned whole to k maxima top = whole ≡ enter_column size rows j (to - k) k (set maxima j top)

  pub scan_start : (from to : ℕ) (maxima : List Float) → Scanned (enter_column size rows j (to - from) from maxima) to from maxima (get_or maxima j nan)
  scan_start from to maxima = ap (enter_column size rows j (to - from) from) (sym (set-get_or maxima j nan))

  module _ {whole : List Float} (to k : ℕ) (maxima : List Float) (top : Float) (s : Scanned whole to k maxima top) where
    pub scan_next : {found old new : Float} → k < to → get_or rows k 0 < length maxima → j < length maxima → found ≡ size k
        → old ≡ larger (get_or maxima (get_or rows k 0) nan) found → new ≡ larger top found → Scanned whole to (k + 1) (set maxima (get_or rows k 0) old) new
    scan_next h I J f o t =
        s
        ∙ turn (to - k) (to - (k + 1)) k (set maxima j top) (omega arith)
        ∙ rw (o, t, f, add-one k) (ap (enter_column size rows j (to - suc k) (suc k)) (enter_apart maxima (get_or rows k 0) j top (size k) I J))

    pub scan_end : to ≤ k → set maxima j top ≡ whole
    scan_end h = sym (s ∙ none (to - k) k (set maxima j top) (omega arith))

-- ---- the columns
module _ (size : ℕ → ℕ → Float) (m : Matrix) where
  column : (i count j : ℕ) (maxima : List Float) → i ≡ suc count
      → enter_columns size m i j maxima
      ≡ enter_columns size m count (suc j) (enter_column (size j) m.pattern.row_idx j (end m.pattern j - start m.pattern j)
      (start m.pattern j) maxima)
  unfolding enter_columns
  column i count j maxima e = rw e refl

  no_column : (i j : ℕ) (maxima : List Float) → i ≡ 0 → enter_columns size m i j maxima ≡ maxima
  unfolding enter_columns
  no_column i j maxima e = rw e refl

  abbrev pub Walked : List Float → ℕ → ℕ → List Float → Type 0
  Walked whole n j maxima = whole ≡ enter_columns size m (n - j) j maxima

  pub maxima_start : {maxima : List Float} → maxima ≡ replicate m.pattern.n Constants.zero → Walked (row_maxima size m) m.pattern.n 0 maxima
  unfolding row_maxima
  maxima_start e = rw (e, sub-zero m.pattern.n) refl

  module _ {whole : List Float} (n j : ℕ) (maxima : List Float) (w : Walked whole n j maxima) where
    pub walk_next : {after : List Float} → j < n
        → after ≡ enter_column (size j) m.pattern.row_idx j (start m.pattern (j + 1) - start m.pattern j) (start m.pattern j) maxima
        → Walked whole n (j + 1) after
    walk_next h e = w ∙ column (n - j) (n - (j + 1)) j maxima (omega arith) ∙ rw (e, add-one j) refl

    pub walk_end : n ≤ j → maxima ≡ whole
    walk_end h = sym (w ∙ no_column (n - j) j maxima (omega arith))

-- ---- what a column's scan asks for
pub column_stretch : (j room : ℕ) (m : Matrix) → Accepted m → room ≡ m.pattern.n → j < m.pattern.n
    → Stretch room m.pattern.row_idx m.values j (start m.pattern j) (start m.pattern (j + 1))
column_stretch j room m a e h =
    let p = a.columns.pointers in
    rw (e, add-one j)
    (record { column = h; up = p.rises j h; within = pointer_below p (suc j) h; stored = a.sizes.stored; inside = a.columns.inside })

pub pointers_fit : (j : ℕ) (m : Matrix) → Accepted m → j < m.pattern.n
    → (j + 1 < length m.pattern.col_ptr) × (start m.pattern j ≤ 131072) × (start m.pattern (j + 1) ≤ 131072)
pointers_fit j m a h =
    let p = a.columns.pointers in (
      omega (arith, a.sizes.colptrs),
      le_trans (pointer_below p j (omega arith)) a.sizes.entries,
      le_trans (pointer_below p (j + 1) (omega arith)) a.sizes.entries,
    )
