-- A pairing is a matching with an entry for each column that holds one, and largest if a closed set of columns has every free column: the theorems of
-- Matchings.antt, for what an algorithm keeps.
use mathlib.Core.Path.{◌≡◌, sym, ap, ◌∙◌}
use mathlib.Core.Logic.{◌≢◌, ◌⊎◌, inl, inr}
use mathlib.Core.Bool.{Bool, true, false, not, ◌||◌}
use Prim.Native.Nat.{ℕ, ◌≤◌, ◌<◌}
use native.Mathlib.Nat.{mul-zero, mul-one}
use native.Mathlib.Decide.{ℕ_discrete}
use native.Mathlib.Omega.{arith}
use lib.Dec.{T, eqb, eqb→eq, eqb_refl, T_not, not_T}
use lib.Ieee.Fits.{eq→eqb}
use Rattle.slices.proofs.Bools.{same_eqb}
use Rattle.matching.specs.Sum.{or_zero, updated}
use Rattle.matching.specs.Matching.{Bipartite, InRange, Simple, IsMatching, size, Largest}
use Rattle.matching.specs.Pairing.{held_entries, paired_entries, matched_count, OfColumn, OfRow, Outside, Paired, RowsOf, ClosedColumns}
use Rattle.matching.proofs.Updated.{updated_other}
use Rattle.matching.proofs.Sums.{or_zero_true, or_zero_not, sum_same, sum_const, sum_under, sum_parts, count_le}
use Rattle.matching.proofs.Matchings.{same_size, Closed, largest}

pub apart : (a b : ℕ) → T (not (eqb a b)) → a ≢ b
apart a b t e = T_not (eqb a b) t (eq→eqb e)

pub not_eqb : (a b : ℕ) → a ≢ b → T (not (eqb a b))
not_eqb a b h = not_T (eqb a b) (λ t. h (eqb→eq a b t))

-- k is one of ours: its column holds it
pub held_entry : (g : Bipartite) (jperm : ℕ → ℕ) (k : ℕ) → T (held_entries g jperm k) → jperm (g.col k) ≡ k
unfolding held_entries
held_entry g jperm k t = eqb→eq (jperm (g.col k)) k t

module _ {g : Bipartite} {none : ℕ} {iperm jperm : ℕ → ℕ} (ok : InRange g) (p : Paired g none iperm jperm) where
  -- the row of an entry of ours has the entry's column
  row_of_held : (k : ℕ) → k < g.entries → T (held_entries g jperm k) → iperm (g.row k) ≡ g.col k
  row_of_held k b t =
      let e : jperm (g.col k) ≡ k = held_entry g jperm k t in
      let c : OfColumn g iperm jperm (g.col k) = p.columns (g.col k) (ok.cols k b) (λ f. omega arith) in
      rw e at c.back

  pub held_matching : IsMatching g (held_entries g jperm)
  held_matching = record {
    rows = λ k l b d s t r. same k l s t (sym (row_of_held k b s) ∙ ap iperm r ∙ row_of_held l d t);
    cols = λ k l b d s t c. same k l s t c;
  }
    where
      same : (k l : ℕ) → T (held_entries g jperm k) → T (held_entries g jperm l) → g.col k ≡ g.col l → k ≡ l
      same k l s t c = sym (held_entry g jperm k s) ∙ ap jperm c ∙ held_entry g jperm l t

  -- the entry of a column is one of ours
  entry_of_held : (j : ℕ) → j < g.n → jperm j ≢ none → T (held_entries g jperm (jperm j))
  unfolding held_entries
  entry_of_held j b f = rw (p.columns j b f).column (eqb_refl (jperm j))

  -- ours has an entry for each column that holds one
  pub held_size : size g (held_entries g jperm) ≡ matched_count none g.n jperm
  unfolding size matched_count
  held_size =
      omega (
        arith,
        count_le g.entries g.n (held_entries g jperm) (λ j. not (eqb (jperm j) none)) g.col
            (λ k b t. (ok.cols k b, not_eqb (jperm (g.col k)) none (λ f. omega (arith, held_entry g jperm k t))))
            held_matching.cols,
        count_le g.n g.entries (λ j. not (eqb (jperm j) none)) (held_entries g jperm) jperm
            (λ j b t. let f : jperm j ≢ none = apart (jperm j) none t in ((p.columns j b f).entry, entry_of_held j b f))
            (λ i j b d s t e. sym (p.columns i b (apart (jperm i) none s)).column ∙ ap g.col e ∙ (p.columns j d (apart (jperm j) none t)).column),
      )

  -- as many rows have a column
  pub count_rows : matched_count none g.n iperm ≡ matched_count none g.n jperm
  unfolding matched_count
  count_rows =
      omega (
        arith,
        count_le g.n g.n (λ i. not (eqb (iperm i) none)) (λ j. not (eqb (jperm j) none)) iperm
            (λ i b t. let r : OfRow g none iperm jperm i = p.rows i b (apart (iperm i) none t) in (r.range, not_eqb (jperm (iperm i)) none r.taken))
            (λ i l b d s t e. sym (p.rows i b (apart (iperm i) none s)).back ∙ ap (λ (j : ℕ). g.row (jperm j)) e
            ∙ (p.rows l d (apart (iperm l) none t)).back),
        count_le g.n g.n (λ j. not (eqb (jperm j) none)) (λ i. not (eqb (iperm i) none)) (λ j. g.row (jperm j))
            (λ j b t. let c : OfColumn g iperm jperm j = p.columns j b (apart (jperm j) none t) in
            (ok.rows (jperm j) c.entry, not_eqb (iperm (g.row (jperm j))) none (λ z. omega (arith, c.back))))
            (λ j l b d s t e. sym (p.columns j b (apart (jperm j) none s)).back ∙ ap iperm e ∙ (p.columns l d (apart (jperm l) none t)).back),
      )

-- at most all are matched
pub count_most : (none n : ℕ) (f : ℕ → ℕ) → matched_count none n f ≤ n
unfolding matched_count
count_most none n f = omega (arith, sum_parts n (λ i. eqb (f i) none) (λ i. 1), sum_const n 1, mul-one n)

-- where the count is full, nothing is free
pub all_matched : (none n : ℕ) (f : ℕ → ℕ) → matched_count none n f ≡ n → (j : ℕ) → j < n → f j ≢ none
unfolding matched_count
all_matched none n f full j b e =
    omega (
      arith,
      sum_parts n (λ i. eqb (f i) none) (λ i. 1),
      sum_const n 1,
      mul-one n,
      sum_under n (λ i. or_zero (eqb (f i) none) 1) j b,
      or_zero_true (eqb (f j) none) 1 (eq→eqb e),
    )

-- at the start all is free
pub empty_pairing : {g : Bipartite} {none : ℕ} {iperm jperm : ℕ → ℕ} → Outside g none → ((i : ℕ) → i < g.n → iperm i ≡ none)
    → ((j : ℕ) → j < g.n → jperm j ≡ none)
    → Paired g none iperm jperm
empty_pairing o row col = record { outside = o; columns = λ j b f. absurd (f (col j b)); rows = λ i b f. absurd (f (row i b)) }

pub empty_count : (none n : ℕ) (f : ℕ → ℕ) → ((j : ℕ) → j < n → f j ≡ none) → matched_count none n f ≡ 0
unfolding matched_count
empty_count none n f free = sum_same n (λ j. or_zero (not (eqb (f j) none)) 1) (λ j. 0) (λ j b. or_zero_not (eqb (f j) none) 1 (eq→eqb (free j b)))
    ∙ sum_const n 0 ∙ mul-zero n

-- ---- largest

pub held_largest : {g : Bipartite} {none : ℕ} {iperm jperm : ℕ → ℕ} {Z : ℕ → Bool} → InRange g → Paired g none iperm jperm
    → ClosedColumns g none iperm Z → ((j : ℕ) → j < g.n → jperm j ≡ none → T (Z j)) → Largest g (held_entries g jperm)
held_largest {g} {none} {iperm} {jperm} {Z} ok p z free = largest ok (held_matching ok p) closed
  where
    closed : Closed g (held_entries g jperm) Z
    closed = record {
      outside = λ j b t.
          let f : jperm j ≢ none = λ e. T_not (Z j) t (free j b e) in
          (jperm j, (p.columns j b f).entry, entry_of_held ok p j b f, (p.columns j b f).column);
      inside = λ k b t.
          let r : OfRow g none iperm jperm (g.row k) = p.rows (g.row k) (ok.rows k b) (z.matched k b t) in
          let j : ℕ = iperm (g.row k) in
          let c : OfColumn g iperm jperm j = p.columns j r.range r.taken in
          (jperm j, c.entry, entry_of_held ok p j r.range r.taken, r.back, rw c.column (z.inside k b t));
    }

-- two closed sets make one
pub closed_union : {g : Bipartite} {none : ℕ} {iperm : ℕ → ℕ} {Z Y : ℕ → Bool} → ClosedColumns g none iperm Z → ClosedColumns g none iperm Y
    → ClosedColumns g none iperm (λ j. Z j || Y j)
closed_union {g} {none} {iperm} {Z} {Y} z y = record {
  matched = λ k b t. either (Z (g.col k)) (Y (g.col k)) t (z.matched k b) (y.matched k b);
  inside = λ k b t. either (Z (g.col k)) (Y (g.col k)) t
      (λ q. left (Z (iperm (g.row k))) (Y (iperm (g.row k))) (z.inside k b q)) (λ q. right (Z (iperm (g.row k))) (Y (iperm (g.row k))) (y.inside k b q));
}
  where
    either : {A : Type 0} (s t : Bool) → T (s || t) → (T s → A) → (T t → A) → A
    either true t h f f' = f tt
    either false t h f f' = f' h

    left : (s t : Bool) → T s → T (s || t)
    left true t h = tt
    left false t h = absurd h

    right : (s t : Bool) → T t → T (s || t)
    right true t h = tt
    right false t h = h

-- row i is free, or its column is not in Z
abbrev pub RowOutside : ℕ → (ℕ → ℕ) → (ℕ → Bool) → ℕ → Type 0
RowOutside none iperm Z i = (iperm i ≡ none) ⊎ T (not (Z (iperm i)))

-- no entry of a closed set is in such a row
pub column_outside : {g : Bipartite} {none : ℕ} {iperm : ℕ → ℕ} {Z : ℕ → Bool} → ClosedColumns g none iperm Z → (k : ℕ) → k < g.entries
    → RowOutside none iperm Z (g.row k) → T (not (Z (g.col k)))
column_outside {g} {none} {iperm} {Z} z k b (inl e) = not_T (Z (g.col k)) (λ t. z.matched k b t e)
column_outside {g} {none} {iperm} {Z} z k b (inr o) = not_T (Z (g.col k)) (λ t. T_not (Z (iperm (g.row k))) o (z.inside k b t))

-- so such a row may change its column
pub closed_updated : {g : Bipartite} {none : ℕ} {iperm : ℕ → ℕ} {Z : ℕ → Bool} → ClosedColumns g none iperm Z → (i j : ℕ) → RowOutside none iperm Z i
    → ClosedColumns g none (updated iperm i j) Z
closed_updated {g} {none} {iperm} {Z} z i j o = record {
  matched = λ k b t. rw (other k b t) (z.matched k b t);
  inside = λ k b t. rw (other k b t) (z.inside k b t);
}
  where
    other : (k : ℕ) → k < g.entries → T (Z (g.col k)) → updated iperm i j (g.row k) ≡ iperm (g.row k)
    other k b t = updated_other iperm i j (g.row k) (λ e. T_not (Z (g.col k)) (column_outside z k b (rw e o)) t)

-- ---- the answer by rows: perm j is the row of column j

module _ {g : Bipartite} {none : ℕ} {iperm jperm perm : ℕ → ℕ} (ok : InRange g) (p : Paired g none iperm jperm) (r : RowsOf g none jperm perm) where
  pub same_by_row : Simple g → (k : ℕ) → k < g.entries → held_entries g jperm k ≡ paired_entries g perm k
  unfolding held_entries paired_entries
  same_by_row simple k b = same_eqb (jperm j) k (perm j) (g.row k) (λ e. r.taken j c (λ f. omega arith) ∙ ap g.row e) back
    where
      j : ℕ
      j = g.col k

      c : j < g.n
      c = ok.cols k b

      back : perm j ≡ g.row k → jperm j ≡ k
      back e =
          let f : jperm j ≢ none = λ f. omega (arith, r.free j c f, ok.rows k b) in
          let h : OfColumn g iperm jperm j = p.columns j c f in
          simple (jperm j) k h.entry b (sym (r.taken j c f) ∙ e) h.column

  -- perm has a row for each column that holds an entry
  pub count_by_row : matched_count none g.n perm ≡ matched_count none g.n jperm
  unfolding matched_count
  count_by_row = sum_same g.n (λ j. or_zero (not (eqb (perm j) none)) 1) (λ j. or_zero (not (eqb (jperm j) none)) 1)
      (λ j b. ap (λ (t : Bool). or_zero (not t) 1) (same j b))
    where
      freed : (j : ℕ) → j < g.n → perm j ≡ none → jperm j ≡ none
      freed j b e =
          elim (ℕ_discrete (jperm j) none) [
            | yes f ↦ f
            | no f ↦ let z : ⊥ = omega (arith, r.taken j b f, ok.rows (jperm j) (p.columns j b f).entry) in absurd z
          ]

      same : (j : ℕ) → j < g.n → eqb (perm j) none ≡ eqb (jperm j) none
      same j b = same_eqb (perm j) none (jperm j) none (freed j b) (r.free j b)

  -- ours by rows has an entry for each column that has a row
  pub by_row_size : Simple g → size g (paired_entries g perm) ≡ matched_count none g.n perm
  by_row_size simple = sym (same_size g (same_by_row simple)) ∙ held_size ok p ∙ sym count_by_row
