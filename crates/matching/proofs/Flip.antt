-- A pairing changes along a path one column at a time: the column takes the loose row, and if it had another row, that row becomes loose. By
-- cases on whether a place is the changed one.
use mathlib.Core.Path.{◌≡◌, sym, ap, ◌∙◌}
use mathlib.Core.Logic.{◌≢◌, inr}
use mathlib.Core.Bool.{Bool, not}
use Prim.Native.Nat.{ℕ, suc, ◌+◌, ◌<◌}
use native.Mathlib.Decide.{ℕ_discrete}
use native.Mathlib.Omega.{arith}
use lib.Dec.{T, eqb}
use lib.Ieee.Fits.{eq→eqb}
use Rattle.matching.specs.Sum.{or_zero, updated}
use Rattle.matching.specs.Matching.{Bipartite, InRange}
use Rattle.matching.specs.Pairing.{matched_count, OfColumn, OfRow, Outside, Paired, ClosedColumns}
use Rattle.matching.proofs.Updated.{updated_same, updated_other}
use Rattle.matching.proofs.Sums.{or_zero_true, or_zero_not, sum_change}
use Rattle.matching.proofs.Pairings.{not_eqb, RowOutside, column_outside}

-- A pairing but for the row r: no column holds an entry of row r, and what iperm says of r does not count.
pub record Dangling (g : Bipartite) (none : ℕ) (iperm jperm : ℕ → ℕ) (r : ℕ) : Type 0 where
  pub outside : Outside g none
  pub columns : (j : ℕ) → j < g.n → jperm j ≢ none → OfColumn g iperm jperm j
  pub unused : (j : ℕ) → j < g.n → jperm j ≢ none → g.row (jperm j) ≢ r
  pub rows : (i : ℕ) → i < g.n → i ≢ r → iperm i ≢ none → OfRow g none iperm jperm i

-- column j can take row r by the entry k
pub record Joins (g : Bipartite) (r j k : ℕ) : Type 0 where
  pub entry : k < g.entries
  pub row : g.row k ≡ r
  pub col : g.col k ≡ j

row_range : {g : Bipartite} {r j k : ℕ} → InRange g → Joins g r j k → r < g.n
row_range {g} {r} {j} {k} ok t = rw t.row at (ok.rows k t.entry)

col_range : {g : Bipartite} {r j k : ℕ} → InRange g → Joins g r j k → j < g.n
col_range {g} {r} {j} {k} ok t = rw t.col at (ok.cols k t.entry)

-- a free row hangs loose
pub dangling : {g : Bipartite} {none : ℕ} {iperm jperm : ℕ → ℕ} {r : ℕ} → Paired g none iperm jperm → iperm r ≡ none → Dangling g none iperm jperm r
dangling {g} {none} {iperm} {jperm} {r} p free = record {
  outside = p.outside;
  columns = p.columns;
  unused = λ j b f e. omega (arith, (p.columns j b f).back, ap iperm e);
  rows = λ i b d. p.rows i b;
}

-- ---- column j takes row r by the entry k
module _ {g : Bipartite} {none : ℕ} {iperm jperm : ℕ → ℕ} {r j k : ℕ} (ok : InRange g) (d : Dangling g none iperm jperm r) (t : Joins g r j k) where
  column : j < g.n
  column = col_range ok t

  columns : (c : ℕ) → c < g.n → updated jperm j k c ≢ none → OfColumn g (updated iperm r j) (updated jperm j k) c
  columns c b f =
      elim (ℕ_discrete c j) [
        | yes e ↦
            let n : updated jperm j k c ≡ k = ap (updated jperm j k) e ∙ updated_same jperm j k in
            record {
              entry = rw n t.entry;
              column = rw n (t.col ∙ sym e);
              back = rw (n, t.row) (updated_same iperm r j ∙ sym e);
            }
        | no o ↦
            let n : updated jperm j k c ≡ jperm c = updated_other jperm j k c o in
            let f' : jperm c ≢ none = rw n at f in
            let h : OfColumn g iperm jperm c = d.columns c b f' in
            record {
              entry = rw n h.entry;
              column = rw n h.column;
              back = rw n (updated_other iperm r j (g.row (jperm c)) (d.unused c b f') ∙ h.back);
            }
      ]

  -- the rows but those that had column j
  rows : (i : ℕ) → i < g.n → (i ≢ r → iperm i ≢ j) → updated iperm r j i ≢ none → OfRow g none (updated iperm r j) (updated jperm j k) i
  rows i b other f =
      elim (ℕ_discrete i r) [
        | yes e ↦
            let n : updated iperm r j i ≡ j = ap (updated iperm r j) e ∙ updated_same iperm r j in
            let m : updated jperm j k j ≡ k = updated_same jperm j k in
            record {
              range = rw n column;
              taken = rw (n, m) (λ z. omega (arith, d.outside.entries, t.entry));
              back = rw (n, m) (t.row ∙ sym e);
            }
        | no o ↦
            let n : updated iperm r j i ≡ iperm i = updated_other iperm r j i o in
            let m : updated jperm j k (iperm i) ≡ jperm (iperm i) = updated_other jperm j k (iperm i) (other o) in
            let h : OfRow g none iperm jperm i = d.rows i b o (rw n at f) in
            record {
              range = rw n h.range;
              taken = rw (n, m) h.taken;
              back = rw (n, m) h.back;
            }
      ]

  -- a row other than r that has column j is the row of its entry
  row_of_column : (i : ℕ) → i < g.n → i ≢ r → iperm i ≡ j → (jperm j ≢ none) × (g.row (jperm j) ≡ i)
  row_of_column i b o e =
      let h : OfRow g none iperm jperm i = d.rows i b o (λ z. omega (arith, d.outside.indices, column)) in
      (rw e at h.taken, rw e at h.back)

  -- a free column: no row hangs loose any more
  pub take_free : jperm j ≡ none → Paired g none (updated iperm r j) (updated jperm j k)
  take_free free = record { outside = d.outside; columns = columns; rows = λ i b. rows i b (λ o e. (row_of_column i b o e).0 free) }

  -- a column that had a row: that row hangs loose now
  pub take-held : jperm j ≢ none → Dangling g none (updated iperm r j) (updated jperm j k) (g.row (jperm j))
  take-held had = record { outside = d.outside; columns = columns; unused = unused; rows = λ i b o. rows i b (λ o' e. o (sym (row_of_column i b o' e).1)) }
    where
      unused : (c : ℕ) → c < g.n → updated jperm j k c ≢ none → g.row (updated jperm j k c) ≢ g.row (jperm j)
      unused c b f e =
          elim (ℕ_discrete c j) [
            | yes q ↦ d.unused j column had (sym e ∙ ap (λ (x : ℕ). g.row (updated jperm j k x)) q ∙ ap g.row (updated_same jperm j k) ∙ t.row)
            | no o ↦
                let n : updated jperm j k c ≡ jperm c = updated_other jperm j k c o in
                o (sym (d.columns c b (rw n at f)).back ∙ ap iperm (sym (ap g.row n) ∙ e) ∙ (d.columns j column had).back)
          ]

  -- the number of columns that hold an entry, after the change
  change : matched_count none g.n (updated jperm j k) + or_zero (not (eqb (jperm j) none)) 1 ≡ suc (matched_count none g.n jperm)
  unfolding matched_count
  change =
      let count : ℕ → ℕ = λ a. or_zero (not (eqb a none)) 1 in
      omega (
        arith,
        sum_change g.n (λ c. count (updated jperm j k c)) (λ c. count (jperm c)) j column (λ c b o. ap count (updated_other jperm j k c o)),
        ap count (updated_same jperm j k),
        or_zero_true (not (eqb k none)) 1 (not_eqb k none (λ e. omega (arith, d.outside.entries, t.entry))),
      )

  pub take_free_count : jperm j ≡ none → matched_count none g.n (updated jperm j k) ≡ suc (matched_count none g.n jperm)
  take_free_count free = omega (arith, change, or_zero_not (eqb (jperm j) none) 1 (eq→eqb free))

  pub take_held_count : jperm j ≢ none → matched_count none g.n (updated jperm j k) ≡ matched_count none g.n jperm
  take_held_count had = omega (arith, change, or_zero_true (not (eqb (jperm j) none)) 1 (not_eqb (jperm j) none had))

  -- a path that is away from a closed set stays so
  pub take_away : {Z : ℕ → Bool} → ClosedColumns g none iperm Z → RowOutside none iperm Z r → jperm j ≢ none → RowOutside none (updated iperm r j) Z
      (g.row (jperm j))
  take_away {Z} z o had =
      let n : updated iperm r j (g.row (jperm j)) ≡ j = updated_other iperm r j (g.row (jperm j)) (d.unused j column had) ∙ (d.columns j column had).back in
      let c : T (not (Z (g.col k))) = column_outside z k t.entry (rw t.row o) in
      inr (rw (n, ← t.col) c)

-- a free column takes a free row
pub pair : {g : Bipartite} {none : ℕ} {iperm jperm : ℕ → ℕ} {i j k : ℕ} → InRange g → Paired g none iperm jperm → Joins g i j k
    → iperm i ≡ none → jperm j ≡ none → Paired g none (updated iperm i j) (updated jperm j k)
pair ok p t row column = take_free ok (dangling p row) t column

-- The swap of length 2: column jj gives its row i to the free column j, by the entry k, and takes the free row ii, by the entry kk.
module _ {g : Bipartite} {none : ℕ} {iperm jperm : ℕ → ℕ} {i j k ii jj kk : ℕ} (ok : InRange g) (p : Paired g none iperm jperm)
    (first : Joins g ii jj kk) (second : Joins g i j k) (row : iperm ii ≡ none) (middle : iperm i ≡ jj) (column : jperm j ≡ none) where
  middle_row : OfRow g none iperm jperm i
  middle_row = p.rows i (row_range ok second) (λ z. omega (arith, col_range ok first))

  middle_held : jperm jj ≢ none
  middle_held = rw middle at middle_row.taken

  -- column jj has taken row ii, and row i hangs loose
  loose : Dangling g none (updated iperm ii jj) (updated jperm jj kk) i
  loose =
      let e : g.row (jperm jj) ≡ i = rw middle at middle_row.back in
      rw e at (take-held ok (dangling p row) first middle_held)

  still_free : updated jperm jj kk j ≡ none
  still_free = updated_other jperm jj kk j (λ e. middle_held (ap jperm (sym e) ∙ column)) ∙ column

  pub swap : Paired g none (updated (updated iperm ii jj) i j) (updated (updated jperm jj kk) j k)
  swap = take_free ok loose second still_free

  pub swap_count : matched_count none g.n (updated (updated jperm jj kk) j k) ≡ suc (matched_count none g.n jperm)
  swap_count = take_free_count ok loose second still_free ∙ ap suc (take_held_count ok (dangling p row) first middle_held)
