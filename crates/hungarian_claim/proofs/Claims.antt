-- Phase 2: what a claim stores is the definition's claim, in each of its four ends; then the loop over the rows.
use mathlib.Core.Path.{◌≡◌, refl, sym, ◌∙◌}
use mathlib.Core.Logic.{◌≢◌, ◌⊎◌, inl, inr}
use mathlib.Core.Bool.{Bool, true, false, not, ◌&&◌, ◌||◌}
use mathlib.Core.List.{List}
use Prim.Native.Nat.{ℕ, ◌+◌, ◌-◌, ◌*◌, ◌/◌, ◌≤◌, ◌<◌}
use native.Mathlib.Numerals.{add-one}
use native.Mathlib.Omega.{arith}
use borrow.Author.Tests.{eq-eqb, ne_eqb}
use lib.Dec.{ltb, eqb}
use lib.ListN.{length, get_or, set, length-set}
use lib.Seq.{get_or-set_other}
use lib.Ieee.{Float}
use Rattle.limits.specs.Limits.{none}
use Rattle.hungarian.specs.Loop.{each}
use Rattle.hungarian.specs.Graph.{CostGraph, graph_of}
use Rattle.hungarian.specs.Init.{Pairs, pair, dense, claim}
use Rattle.hungarian.specs.inner.Layout.{region, iperm_at, jperm_at, least_at}
use Rattle.hungarian.proofs.InitLaws.{set_cases}
use Rattle.hungarian.proofs.Regions.{region_length}
use Rattle.hungarian_claim.specs.inner.Memory.{pairs_counted, Columned}
use Rattle.hungarian_claim.specs.inner.Steps.{Claimable, ClaimedRow, ClaimedRows}
use Rattle.hungarian_claim.proofs.Words.{each_more, each_none, word, store, apart}

pub columned_set : {n : ℕ} (l : List ℕ) {i x : ℕ} → length l ≡ n → i < n → (x ≡ none) ⊎ (x < n) → Columned n l → Columned n (set l i x)
columned_set {n} l {i} {x} e h o c = set_cases (λ a y. a < n → (y ≡ none) ⊎ (y < n)) l i x 0 (omega arith) (λ b. o) (λ a d. c a)

-- ---- one claim of the definition
module _ (g : CostGraph) (least : List ℕ) (i : ℕ) (s : Pairs) (j : ℕ) (e : get_or s.iperm i 0 ≡ j) where
  abbrev freed : Pairs
  freed = record { iperm = set s.iperm i none; jperm = s.jperm; num = s.num }

  claim_bare : j ≡ none → claim g least i s ≡ s
  unfolding claim
  claim_bare b = rw (e, eq-eqb j none b) refl

  claim_frees : j ≢ none → (not (eqb (get_or s.jperm j 0) none) || dense g j) ≡ true → claim g least i s ≡ freed
  unfolding claim
  claim_frees b t = rw (e, ne_eqb j none b, t) refl

  claim_pairs : j ≢ none → (not (eqb (get_or s.jperm j 0) none) || dense g j) ≡ false → claim g least i s ≡ pair i j (get_or least i 0) freed
  unfolding claim
  claim_pairs b t = rw (e, ne_eqb j none b, t) refl

-- ---- one claim of the code, at row i with the column j
module _ {n : ℕ} {col_ptr w : List ℕ} {i : ℕ} (c : Claimable n col_ptr w) (h : i < n) where
  abbrev column : ℕ
  column = get_or w i 0

  abbrev bare : List ℕ
  bare = set w i none

  -- the column's length, as the code reads it
  abbrev long : Bool
  long = ltb (n / 10) (get_or col_ptr (column + 1) 0 - get_or col_ptr column 0) && ltb 50 n

  pub column_range : column ≢ none → column < n
  column_range d = go (c.columned i h)
    where
      go : (get_or (region iperm_at n w) i 0 ≡ none) ⊎ (get_or (region iperm_at n w) i 0 < n) → column < n
      go (inl e) = absurd (d (sym (word iperm_at n w i i (omega arith) h 0) ∙ e))
      go (inr l) = rw (word iperm_at n w i i (omega arith) h 0) at l

  is_dense : (rows : List ℕ) (cost : List Float) → dense (graph_of n col_ptr rows cost) column ≡ long
  unfolding dense
  is_dense rows cost = rw (add-one column) refl

  rows_count : length (region iperm_at n w) ≡ n
  rows_count = region_length iperm_at n w (omega (arith, c.workspace.words))

  pub claimed_bare : (num : ℕ) → column ≡ none → ClaimedRow n col_ptr w i num w num
  claimed_bare num e = record {
    pairs = λ rows cost. sym
        (claim_bare (graph_of n col_ptr rows cost) (region least_at n w) i (pairs_counted n w num) column (word iperm_at n w i i (omega arith) h 0) e);
    least = refl;
    columned = c.columned;
    few = omega arith;
  }

  module _ (d : column ≢ none) where
    -- what the code reads after it has freed the row
    entry : get_or (region jperm_at n w) column 0 ≡ get_or bare (n + column) 0
    entry = word jperm_at n w (n + column) column (omega arith) (column_range d) 0 ∙ sym (get_or-set_other w i (n + column) none 0 (λ q. omega arith))

    freed_row : (num : ℕ) → ((rows : List ℕ) (cost : List Float)
        → (not (eqb (get_or (region jperm_at n w) column 0) none) || dense (graph_of n col_ptr rows cost) column) ≡ true) → ClaimedRow n col_ptr w i num bare num
    freed_row num t = record {
      pairs = λ rows cost.
          rw (store iperm_at n w i i (omega arith) h none, apart iperm_at n w i i (omega arith) h jperm_at none (inr (omega arith)))
          (sym (claim_frees (graph_of n col_ptr rows cost) (region least_at n w) i (pairs_counted n w num) column
          (word iperm_at n w i i (omega arith) h 0) d (t rows cost)));
      least = apart iperm_at n w i i (omega arith) h least_at none (inr (omega arith));
      columned = rw (store iperm_at n w i i (omega arith) h none) (columned_set (region iperm_at n w) rows_count h (inl refl) c.columned);
      few = omega arith;
    }

    pub claimed_held : (num : ℕ) → get_or bare (n + column) 0 ≢ none → ClaimedRow n col_ptr w i num bare num
    claimed_held num f = freed_row num (λ rows cost. rw (entry, ne_eqb (get_or bare (n + column) 0) none f) refl)

    pub claimed_dense : (num : ℕ) → get_or bare (n + column) 0 ≡ none → long ≡ true → ClaimedRow n col_ptr w i num bare num
    claimed_dense num f t = freed_row num (λ rows cost. rw (entry, eq-eqb (get_or bare (n + column) 0) none f, is_dense rows cost, t) refl)

    pub claimed_taken : (num : ℕ) → get_or bare (n + column) 0 ≡ none → long ≡ false → ClaimedRow n col_ptr w i num
        (set (set bare i column) (n + column) (get_or (set bare i column) (2 * n + i) 0)) (num + 1)
    unfolding pair
    claimed_taken num f t =
        let l = column_range d in
        let a : List ℕ = set bare i column in
        let k : ℕ = get_or a (2 * n + i) 0 in
        let q : get_or (region least_at n w) i 0 ≡ k =
        word least_at n w (2 * n + i) i (omega arith) h 0
        ∙ sym (get_or-set_other bare i (2 * n + i) column 0 (λ z. omega arith) ∙ get_or-set_other w i (2 * n + i) none 0 (λ z. omega arith)) in
        let rows : region iperm_at n (set a (n + column) k) ≡ set (set (region iperm_at n w) i none) i column =
        apart jperm_at n a (n + column) column (omega arith) l iperm_at k (inl (omega arith)) ∙ store iperm_at n bare i i (omega arith) h column
        ∙ rw (store iperm_at n w i i (omega arith) h none) refl in
        let columns : region jperm_at n (set a (n + column) k) ≡ set (region jperm_at n w) column k =
        store jperm_at n a (n + column) column (omega arith) l k
        ∙ rw (
          apart iperm_at n bare i i (omega arith) h jperm_at column (inr (omega arith)),
          apart iperm_at n w i i (omega arith) h jperm_at none
              (inr (omega arith)),
        ) refl in
        record {
          pairs = λ rs cost.
              let open' : (not (eqb (get_or (region jperm_at n w) column 0) none) || dense (graph_of n col_ptr rs cost) column) ≡ false =
              rw (entry, eq-eqb (get_or bare (n + column) 0) none f, is_dense rs cost, t) refl in
              rw (rows, columns, ← q) (sym
              (claim_pairs (graph_of n col_ptr rs cost) (region least_at n w) i (pairs_counted n w num) column
              (word iperm_at n w i i (omega arith) h 0) d open'));
          least = apart jperm_at n a (n + column) column (omega arith) l least_at k (inr (omega arith)) ∙ apart iperm_at n bare i i
              (omega arith) h least_at column (inr (omega arith)) ∙ apart iperm_at n w i i (omega arith) h least_at none (inr (omega arith));
          columned = rw rows (columned_set (set (region iperm_at n w) i none) (simp length-set rows_count) h (inr l)
              (columned_set (region iperm_at n w) rows_count h (inl refl) c.columned));
          few = omega arith;
        }

-- ---- the rows from i on
pub record Claiming (n : ℕ) (col_ptr w₀ w : List ℕ) (i num : ℕ) : Type 0 where
  pub within : i ≤ n
  pub few : num ≤ i
  pub claimable : Claimable n col_ptr w
  pub least : region least_at n w ≡ region least_at n w₀
  pub run : (rows : List ℕ) (cost : List Float) → each i n (claim (graph_of n col_ptr rows cost) (region least_at n w₀)) (pairs_counted n w num) ≡ each 0 n
      (claim (graph_of n col_ptr rows cost) (region least_at n w₀)) (pairs_counted n w₀ 0)

module _ {n : ℕ} {col_ptr w₀ : List ℕ} where
  module _ {w : List ℕ} {i num : ℕ} (c : Claiming n col_ptr w₀ w i num) where
    pub claiming_turn : {w' : List ℕ} {r : ℕ} → i < n → length w' ≡ length w → ClaimedRow n col_ptr w i num w' r → Claiming n col_ptr w₀ w' (i + 1) r
    claiming_turn {w'} {r} h l s = record {
      within = omega arith;
      few = omega (arith, c.few, s.few);
      claimable = record {
        workspace = record { words = l ∙ c.claimable.workspace.words; small = c.claimable.workspace.small };
        pointer_count =
            c.claimable.pointer_count;
        rises = c.claimable.rises;
        columned = s.columned;
      };
      least = s.least ∙ c.least;
      run = λ rows cost.
          let f : ℕ → Pairs → Pairs = claim (graph_of n col_ptr rows cost) (region least_at n w₀) in
          let step : pairs_counted n w' r ≡ f i (pairs_counted n w num) = rw c.least at (s.pairs rows cost) in
          rw (step, ← each_more f i n (pairs_counted n w num) h) (c.run rows cost);
    }

    pub claiming_end : n ≤ i → ClaimedRows n col_ptr w₀ w num
    claiming_end h = record {
      pairs = λ rows cost. sym (each_none (claim (graph_of n col_ptr rows cost) (region least_at n w₀)) i n (pairs_counted n w num) h) ∙ c.run rows cost;
      columned = c.claimable.columned;
      few = omega (arith, c.few, c.within);
    }
