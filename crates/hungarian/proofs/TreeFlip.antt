-- The pairs are flipped along the path, from its free row back to the root: a matching with one more pair. Every column on the way takes the row by
-- which the one after it was reached. By the ranks the way back has at most as many steps as rows were popped. A closed set of columns stays
-- closed.
use mathlib.Core.Path.{◌≡◌, refl, sym, ap, ◌∙◌, subst}
use mathlib.Core.Logic.{◌⊎◌, inl, inr, ◌≢◌}
use mathlib.Core.Bool.{Bool, true, false, cond, not}
use mathlib.Core.List.{List}
use Prim.Native.Nat.{ℕ, zero, suc, ◌+◌, ◌≤◌, ◌<◌}
use native.Mathlib.Nat.{le_trans, le_of_eq}
use native.Mathlib.Decide.{ℕ_discrete}
use native.Mathlib.Omega.{arith}
use borrow.Author.Tests.{ne_eqb}
use lib.Dec.{eqb}
use lib.ListN.{length, set, length-set}
use lib.Seq.{get_or-set_same, get_or-set_other}
use lib.Ieee.{Float}
use Rattle.limits.specs.Limits.{none}
use Rattle.matching.specs.Sum.{or_zero, updated}
use Rattle.matching.specs.Matching.{InRange}
use Rattle.matching.specs.Pairing.{Paired, matched_count, ClosedColumns}
use Rattle.matching.proofs.Updated.{get_d_set}
use Rattle.matching.proofs.Sums.{or_zero_true}
use Rattle.matching.proofs.Pairings.{RowOutside, closed_updated, count_rows, not_eqb}
use Rattle.matching.proofs.Flip.{Dangling, Joins, dangling, take_free, take-held, take_free_count, take_held_count, take_away}
use Rattle.sparse.specs.Pattern.{bipartite, row_of, InColumn}
use Rattle.hungarian.specs.Graph.{CostGraph}
use Rattle.hungarian.specs.Init.{Pairs}
use Rattle.hungarian.specs.Search.{Tree, walk, flip}
use Rattle.hungarian.specs.inner.Setting.{Setting}
use Rattle.hungarian.specs.inner.Between.{at, Matched}
use Rattle.hungarian.specs.inner.SearchTree.{Among, Grown, PathEnd, Reached, Scanned}
use Rattle.sparse.proofs.Columns.{in_entries, in_range_lem, column-is, row_below}
use Rattle.hungarian.proofs.Rows.{pigeons}

-- the entry that column c takes on the path: the last entry, or the entry by which a popped row's column was reached from c
pub record Taken (g : CostGraph) (s : Pairs) (r : ℕ) (t : Tree) (c k : ℕ) : Type 0 where
  pub scanned : Scanned s r t.popped c
  pub way : ((c ≡ t.jsp) × (k ≡ t.isp)) ⊎ ((q : ℕ) × Among q t.popped × (c ≡ at t.pr (at s.iperm q)) × (k ≡ at t.out (at s.iperm q)))

-- what holds of the pairs s' on the way
pub record Flipped (g : CostGraph) (s : Pairs) (r : ℕ) (t : Tree) (s' : Pairs) : Type 0 where
  pub row_count : length s'.iperm ≡ g.pattern.n
  pub column_count : length s'.jperm ≡ g.pattern.n
  pub rows_free : (i : ℕ) → i < g.pattern.n → at s'.iperm i ≡ none → at s.iperm i ≡ none
  pub columns_free : (c : ℕ) → c < g.pattern.n → at s'.jperm c ≡ none → at s.jperm c ≡ none
  pub entries : (c : ℕ) → c < g.pattern.n → (at s'.jperm c ≡ at s.jperm c) ⊎ Taken g s r t c (at s'.jperm c)

-- column c takes entry k
abbrev reassign : CostGraph → ℕ → ℕ → ℕ → Pairs → Pairs
reassign g n c k s' = record { iperm = set s'.iperm (row_of g.pattern k) c; jperm = set s'.jperm c k; num = n }

module _ {Good : Float → Type 0} {err C : ℕ} {g : CostGraph} {s : Pairs} {u : List Float} {r : ℕ} {rank : ℕ → ℕ} (S : Setting Good err C g)
    (M : Matched g s) (root : at s.jperm r ≡ none) (below : r < g.pattern.n) (t : Tree) (G : Grown Good err C g s u r rank t) where
  abbrev ok : InRange (bipartite g.pattern)
  ok = in_range_lem g.pattern S.columns

  small : (c : ℕ) → c < g.pattern.n → c ≢ none
  small c h e = omega (arith, S.few_columns)

  entry_small : (k : ℕ) → k < length g.pattern.row_idx → k ≢ none
  entry_small k h e = omega (arith, S.few_entries)

  -- one column takes an entry
  flipped_take : (n c k : ℕ) (s' : Pairs) → InColumn g.pattern c k → Taken g s r t c k → Flipped g s r t s' → Flipped g s r t (reassign g n c k s')
  flipped_take n c k s' e w F = record {
    row_count = length-set s'.iperm (row_of g.pattern k) c ∙ F.row_count;
    column_count = length-set s'.jperm c k ∙ F.column_count;
    rows_free = λ i h z. rows i h (ℕ_discrete i (row_of g.pattern k)) z;
    columns_free = λ b h z. columns b h (ℕ_discrete b c) z;
    entries = λ b h. held b h (ℕ_discrete b c);
  }
    where
      here : at (set s'.jperm c k) c ≡ k
      here = get_or-set_same s'.jperm c k 0 (omega (arith, F.column_count, e.column))

      rows : (i : ℕ) → i < g.pattern.n → Dec (i ≡ row_of g.pattern k) → at (set s'.iperm (row_of g.pattern k) c) i ≡ none → at s.iperm i ≡ none
      rows i h (yes q) z = absurd
          (small c e.column (sym (get_or-set_same s'.iperm (row_of g.pattern k) c 0
          (omega (arith, F.row_count, row_below g.pattern S.columns c k e)))
          ∙ ap (at (set s'.iperm (row_of g.pattern k) c)) (sym q) ∙ z))
      rows i h (no o) z = F.rows_free i h (sym (get_or-set_other s'.iperm (row_of g.pattern k) i c 0 o) ∙ z)

      columns : (b : ℕ) → b < g.pattern.n → Dec (b ≡ c) → at (set s'.jperm c k) b ≡ none → at s.jperm b ≡ none
      columns b h (yes q) z = absurd (entry_small k (in_entries g.pattern S.columns c k e) (sym here ∙ ap (at (set s'.jperm c k)) (sym q) ∙ z))
      columns b h (no o) z = F.columns_free b h (sym (get_or-set_other s'.jperm c b k 0 o) ∙ z)

      held : (b : ℕ) → b < g.pattern.n → Dec (b ≡ c) → (at (set s'.jperm c k) b ≡ at s.jperm b) ⊎ Taken g s r t b (at (set s'.jperm c k) b)
      held b h (yes q) = inr (rw (q, here) w)
      held b h (no o) = rw (get_or-set_other s'.jperm c b k 0 o) (F.entries b h)

  joins : (c k : ℕ) → InColumn g.pattern c k → Joins (bipartite g.pattern) (row_of g.pattern k) c k
  joins c k e = record { entry = in_entries g.pattern S.columns c k e; row = refl; col = column-is g.pattern S.columns c k e }

  -- the pairs after a take, as functions
  rows_updated : (c k : ℕ) (s' : Pairs) → InColumn g.pattern c k → Flipped g s r t s' → at (set s'.iperm (row_of g.pattern k) c) ≡ updated
      (at s'.iperm) (row_of g.pattern k) c
  rows_updated c k s' e F = get_d_set s'.iperm (row_of g.pattern k) c 0 (omega (arith, F.row_count, row_below g.pattern S.columns c k e))

  columns_updated : (c k : ℕ) (s' : Pairs) → InColumn g.pattern c k → Flipped g s r t s' → at (set s'.jperm c k) ≡ updated (at s'.jperm) c k
  columns_updated c k s' e F = get_d_set s'.jperm c k 0 (omega (arith, F.column_count, e.column))

-- the path is flipped: one pair more
pub record Augmented (g : CostGraph) (s : Pairs) (r : ℕ) (t : Tree) (s' : Pairs) : Type 0 where
  pub flipped : Flipped g s r t s'
  pub paired : Paired (bipartite g.pattern) none (at s'.iperm) (at s'.jperm)
  pub counted : matched_count none g.pattern.n (at s'.jperm) ≡ suc (matched_count none g.pattern.n (at s.jperm))
  pub closed : (Z : ℕ → Bool) → ClosedColumns (bipartite g.pattern) none (at s.iperm) Z → ClosedColumns (bipartite g.pattern) none (at s'.iperm) Z
  pub root_taken : at s'.jperm r ≢ none

-- on the way: row q has lost its column, and columns of a lower rank hold what they held
record Loose (g : CostGraph) (s : Pairs) (r : ℕ) (rank : ℕ → ℕ) (t : Tree) (q : ℕ) (s' : Pairs) : Type 0 where
  flipped : Flipped g s r t s'
  loose : Dangling (bipartite g.pattern) none (at s'.iperm) (at s'.jperm) q
  counted : matched_count none g.pattern.n (at s'.jperm) ≡ matched_count none g.pattern.n (at s.jperm)
  lower : (c : ℕ) → rank c < rank (at s.iperm q) → at s'.jperm c ≡ at s.jperm c
  closed : (Z : ℕ → Bool) → ClosedColumns (bipartite g.pattern) none (at s.iperm) Z → ClosedColumns (bipartite g.pattern) none (at s'.iperm) Z
      × RowOutside none (at s'.iperm) Z q

module _ {Good : Float → Type 0} {err C : ℕ} {g : CostGraph} {s : Pairs} {u : List Float} {r : ℕ} {rank : ℕ → ℕ} (S : Setting Good err C g)
    (M : Matched g s) (root : at s.jperm r ≡ none) (below : r < g.pattern.n) (t : Tree) (G : Grown Good err C g s u r rank t) where
  -- column c takes the loose row ρ = row_of g.pattern k by its entry k
  module _ (n c k : ℕ) (s' : Pairs) (e : InColumn g.pattern c k) (w : Taken g s r t c k) (F : Flipped g s r t s')
      (d : Dangling (bipartite g.pattern) none (at s'.iperm) (at s'.jperm) (row_of g.pattern k))
      (closed : (Z : ℕ → Bool) → ClosedColumns (bipartite g.pattern) none (at s.iperm) Z → ClosedColumns (bipartite g.pattern) none (at s'.iperm) Z
      × RowOutside none (at s'.iperm) Z (row_of g.pattern k)) where
    a : at (set s'.iperm (row_of g.pattern k) c) ≡ updated (at s'.iperm) (row_of g.pattern k) c
    a = rows_updated S M root below t G c k s' e F

    b : at (set s'.jperm c k) ≡ updated (at s'.jperm) c k
    b = columns_updated S M root below t G c k s' e F

    -- the root: the path ends
    end_take : matched_count none g.pattern.n (at s'.jperm) ≡ matched_count none g.pattern.n (at s.jperm) → at s'.jperm c ≡ none → c ≡ r
        → Augmented g s r t (reassign g n c k s')
    end_take h f q = record {
      flipped = flipped_take S M root below t G n c k s' e w F;
      paired = rw (a, b) (take_free (in_range_lem g.pattern S.columns) d (joins S M root below t G c k e) f);
      counted = rw b (take_free_count (in_range_lem g.pattern S.columns) d (joins S M root below t G c k e) f ∙ ap suc h);
      closed = λ Z z. rw a (closed_updated (closed Z z).0 (row_of g.pattern k) c (closed Z z).1);
      root_taken = λ z. entry_small S M root below t G k (in_entries g.pattern S.columns c k e)
          (sym (get_or-set_same s'.jperm c k 0 (omega (arith, F.column_count, e.column))) ∙ ap (at (set s'.jperm c k)) q ∙ z);
    }

    -- another column: its own row is loose now
    next_take : (q : ℕ) → at s.iperm q ≡ c → row_of g.pattern (at s.jperm c) ≡ q → at s'.jperm c ≡ at s.jperm c → at s.jperm c ≢ none
        → matched_count none g.pattern.n (at s'.jperm) ≡ matched_count none g.pattern.n (at s.jperm)
        → ((i : ℕ) → rank i < rank c → at s'.jperm i ≡ at s.jperm i) → Loose g s r rank t q (reassign g n c k s')
    next_take q x y f h m l = record {
      flipped = flipped_take S M root below t G n c k s' e w F;
      loose = rw (a, b) (subst (Dangling (bipartite g.pattern) none (updated (at s'.iperm) (row_of g.pattern k) c) (updated (at s'.jperm) c k))
          (ap (row_of g.pattern) f ∙ y) (take-held (in_range_lem g.pattern S.columns) d (joins S M root below t G c k e) (λ z. h (sym f ∙ z))));
      counted = rw b (take_held_count (in_range_lem g.pattern S.columns) d (joins S M root below t G c k e) (λ z. h (sym f ∙ z)) ∙ m);
      lower = λ i o. get_or-set_other s'.jperm c i k 0 (λ z. let o' = rw (x, z) at o in omega arith) ∙ l i (rw x at o);
      closed = λ Z z. (
        rw a (closed_updated (closed Z z).0 (row_of g.pattern k) c (closed Z z).1),
        subst (λ (x : ℕ → ℕ). RowOutside none x Z q) (sym a)
            (subst (RowOutside none (updated (at s'.iperm) (row_of g.pattern k) c) Z) (ap (row_of g.pattern) f ∙ y)
            (take_away (in_range_lem g.pattern S.columns) d (joins S M root below t G c k e) (closed Z z).0 (closed Z z).1 (λ z. h (sym f ∙ z)))),
      );
    }

  walk_stops : (m : ℕ) (s' : Pairs) → walk g t m r s' ≡ s'
  unfolding walk
  walk_stops zero s' = refl
  walk_stops (suc m) s' = rw G.root_alone refl

  walk_augments : (m q : ℕ) (s' : Pairs) → Among q t.popped → rank (at s.iperm q) ≤ m → Loose g s r rank t q s'
      → Augmented g s r t (walk g t m (at s.iperm q) s')
  unfolding walk
  walk_augments zero q s' m h L = let z = G.rank_lower q m in let n : ⊥ = omega arith in absurd n
  walk_augments (suc f) q s' m h L =
      rw (ne_eqb (at t.pr (at s.iperm q)) none (small S M root below t G (at t.pr (at s.iperm q)) w.entry.column))
      (go w.from (walk_augments f))
    where
      w : Reached Good err C g s u r t.popped t.pr t.out t.d q
      w = G.reached q (G.popped_touched q m)

      way : Taken g s r t (at t.pr (at s.iperm q)) (at t.out (at s.iperm q))
      way = record { scanned = w.from; way = inr (q, m, refl, refl) }

      d : Dangling (bipartite g.pattern) none (at s'.iperm) (at s'.jperm) (row_of g.pattern (at t.out (at s.iperm q)))
      d = rw w.to L.loose

      cl : (Z : ℕ → Bool) → ClosedColumns (bipartite g.pattern) none (at s.iperm) Z → ClosedColumns (bipartite g.pattern) none (at s'.iperm) Z
          × RowOutside none (at s'.iperm) Z (row_of g.pattern (at t.out (at s.iperm q)))
      cl Z z = rw w.to (L.closed Z z)

      same : at s'.jperm (at t.pr (at s.iperm q)) ≡ at s.jperm (at t.pr (at s.iperm q))
      same = L.lower (at t.pr (at s.iperm q)) (G.rank_lower q m)

      go : Scanned s r t.popped (at t.pr (at s.iperm q))
          → ((q : ℕ) (s' : Pairs) → Among q t.popped → rank (at s.iperm q) ≤ f → Loose g s r rank t q s'
          → Augmented g s r t (walk g t f (at s.iperm q) s'))
          → Augmented g s r t (walk g t f (at t.pr (at s.iperm q))
          (reassign g s'.num (at t.pr (at s.iperm q)) (at t.out (at s.iperm q)) s'))
      go (inl e) rest =
          let b = end_take s'.num (at t.pr (at s.iperm q)) (at t.out (at s.iperm q)) s' w.entry way L.flipped d cl L.counted
          (same ∙ ap (at s.jperm) e ∙ root) e in
          subst (λ (c : ℕ). Augmented g s r t (walk g t f c (reassign g s'.num (at t.pr (at s.iperm q)) (at t.out (at s.iperm q)) s')))
          (sym e) (rw (walk_stops f (reassign g s'.num (at t.pr (at s.iperm q)) (at t.out (at s.iperm q)) s')) b)
      go (inr (p, a, e)) rest =
          let x = G.reached p (G.popped_touched p a) in
          let o = M.paired.rows p x.row x.matched in
          let b = next_take s'.num (at t.pr (at s.iperm q)) (at t.out (at s.iperm q)) s' w.entry way L.flipped d cl p e
          (ap (λ (c : ℕ). row_of g.pattern (at s.jperm c)) (sym e) ∙ o.back) same (λ z. o.taken (ap (at s.jperm) e ∙ z)) L.counted
          (λ i l. L.lower i (let z = G.rank_lower q m in omega arith)) in
          subst (λ (c : ℕ). Augmented g s r t (walk g t f c (reassign g s'.num (at t.pr (at s.iperm q)) (at t.out (at s.iperm q)) s'))) e
          (rest p (reassign g s'.num (at t.pr (at s.iperm q)) (at t.out (at s.iperm q)) s') a (rw e (let z = G.rank_lower q m in omega arith)) b)

  -- ---- from the last entry on
  -- at most as many rows are popped as pairs there are
  popped_few : length t.popped ≤ s.num
  popped_few =
      le_trans (pigeons g.pattern.n (λ i. or_zero (not (eqb (at s.iperm i) none)) 1) t.popped G.popped_once
      (λ i m. let w = G.reached i (G.popped_touched i m) in
      (w.row, le_of_eq (sym (or_zero_true (not (eqb (at s.iperm i) none)) 1 (not_eqb (at s.iperm i) none w.matched))))))
      (le_of_eq (unfold matched_count in count_rows (in_range_lem g.pattern S.columns) M.paired ∙ sym M.counted))

  pub flip_augments : PathEnd Good err C g s u r t.popped t.csp t.isp t.jsp → Augmented g s r t (flip g t t.isp t.jsp s)
  unfolding flip
  flip_augments P = go P.from
    where
      F : Flipped g s r t s
      F = record { row_count = M.row_count; column_count = M.column_count; rows_free = λ i h z. z; columns_free = λ c h z. z; entries = λ c h. inl refl }

      d : Dangling (bipartite g.pattern) none (at s.iperm) (at s.jperm) (row_of g.pattern t.isp)
      d = dangling M.paired P.ends

      way : Taken g s r t t.jsp t.isp
      way = record { scanned = P.from; way = inl (refl, refl) }

      cl : (Z : ℕ → Bool) → ClosedColumns (bipartite g.pattern) none (at s.iperm) Z → ClosedColumns (bipartite g.pattern) none (at s.iperm) Z
          × RowOutside none (at s.iperm) Z (row_of g.pattern t.isp)
      cl Z z = (z, inl P.ends)

      go : Scanned s r t.popped t.jsp → Augmented g s r t (walk g t (s.num + 1) t.jsp (reassign g (s.num + 1) t.jsp t.isp s))
      go (inl e) =
          subst (λ (c : ℕ). Augmented g s r t (walk g t (s.num + 1) c (reassign g (s.num + 1) t.jsp t.isp s))) (sym e)
          (rw (walk_stops (s.num + 1) (reassign g (s.num + 1) t.jsp t.isp s))
          (end_take (s.num + 1) t.jsp t.isp s P.entry way F d cl refl (ap (at s.jperm) e ∙ root) e))
      go (inr (q, m, e)) =
          let x = G.reached q (G.popped_touched q m) in
          let o = M.paired.rows q x.row x.matched in
          subst (λ (c : ℕ). Augmented g s r t (walk g t (s.num + 1) c (reassign g (s.num + 1) t.jsp t.isp s))) e
          (walk_augments (s.num + 1) q (reassign g (s.num + 1) t.jsp t.isp s) m (let z = G.rank_most q m in omega (arith, popped_few))
          (next_take (s.num + 1) t.jsp t.isp s P.entry way F d cl q e (ap (λ (c : ℕ). row_of g.pattern (at s.jperm c)) (sym e) ∙ o.back) refl
          (λ z. o.taken (ap (at s.jperm) e ∙ z)) refl (λ i l. refl)))

  walk_num : (m j : ℕ) (s' : Pairs) → (walk g t m j s').num ≡ s'.num
  unfolding walk
  walk_num zero j s' = refl
  walk_num (suc m) j s' = go (eqb (at t.pr j) none) (walk_num m (at t.pr j))
    where
      go : (b : Bool) → ((x : Pairs) → (walk g t m (at t.pr j) x).num ≡ x.num)
          → (cond b s' (walk g t m (at t.pr j)
          (record {
            iperm = set s'.iperm (row_of g.pattern (at t.out j)) (at t.pr j);
            jperm = set s'.jperm (at t.pr j) (at t.out j);
            num =
                s'.num;
          }))).num ≡ s'.num
      go true f = refl
      go false f = f (record {
        iperm = set s'.iperm (row_of g.pattern (at t.out j)) (at t.pr j);
        jperm =
            set s'.jperm (at t.pr j) (at t.out j);
        num = s'.num;
      })

  pub flip_matched : PathEnd Good err C g s u r t.popped t.csp t.isp t.jsp → Matched g (flip g t t.isp t.jsp s)
  flip_matched P =
      let A = flip_augments P in
      record { row_count = A.flipped.row_count; column_count = A.flipped.column_count; paired = A.paired; counted = num ∙ sym A.counted }
    where
      num : (flip g t t.isp t.jsp s).num ≡ suc (matched_count none g.pattern.n (at s.jperm))
      num = unfold flip in walk_num (s.num + 1) t.jsp (reassign g (s.num + 1) t.jsp t.isp s)
          ∙ (let e : s.num + 1 ≡ suc s.num = omega arith in e) ∙ ap suc M.counted
