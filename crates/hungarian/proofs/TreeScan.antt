-- A column is scanned: every entry of it is examined, and what holds of the tree holds on. One loop over the edges' laws.
use mathlib.Core.Path.{◌≡◌, sym, subst}
use mathlib.Core.Logic.{◌⊎◌, inl, inr, ⊎_elim}
use mathlib.Core.List.{List}
use Prim.Native.Nat.{ℕ, suc, ◌+◌, ◌≤◌, ◌<◌}
use native.Mathlib.Nat.{eq-or-lt_of_le}
use native.Mathlib.Decide.{ℕ_discrete}
use native.Mathlib.Omega.{arith}
use lib.ListN.{length}
use lib.Ieee.{Float}
use Rattle.limits.specs.Limits.{none}
use Rattle.float64.specs.inner.Keys.{position}
use Rattle.hungarian.specs.Loop.{each}
use Rattle.sparse.specs.Pattern.{row_of, start, end, InColumn}
use Rattle.hungarian.specs.Graph.{CostGraph}
use Rattle.hungarian.specs.Init.{Pairs}
use Rattle.hungarian.specs.Search.{Tree, edge}
use Rattle.hungarian.specs.inner.Setting.{Setting}
use Rattle.hungarian.specs.inner.Bounds.{level}
use Rattle.hungarian.specs.inner.Between.{at, Matched}
use Rattle.hungarian.specs.inner.SearchTree.{Near, dual_of_lem, cost_of_lem, Covered, Exact, Examined, Scanning, GoodDistance, Scanned}
use Rattle.hungarian.proofs.Loops.{each_keeps}
use Rattle.hungarian.proofs.Tree as Tree
use Rattle.hungarian.proofs.TreeOrder.{Done, near_lower, edge_order}
use Rattle.hungarian.proofs.TreeCover.{Later, covered_later, later_trans, later_same, edge_later}

-- the distances x by the entries of column j
pub record Distances (Good : Float → Type 0) (err C : ℕ) (g : CostGraph) (s : Pairs) (u : List Float) (v : ℕ → ℕ) (top depth j : ℕ)
    (x : ℕ → Float) : Type 0 where
  pub distance : (k : ℕ) → InColumn g.pattern j k → GoodDistance Good err (level C (suc depth)) u (row_of g.pattern k) (x k)
  pub exact : Exact err g s u → (k : ℕ) → InColumn g.pattern j k → position (x k) + dual_of_lem u (row_of g.pattern k) ≡ v j + cost_of_lem g k
  pub high : Exact err g s u → (k : ℕ) → InColumn g.pattern j k → top ≤ position (x k)

module _ {Good : Float → Type 0} {err C : ℕ} {g : CostGraph} {s : Pairs} {u : List Float} {r : ℕ} {rank v : ℕ → ℕ} {top : ℕ} (S : Setting Good err C g)
    (M : Matched g s) (H : Tree.HeapLaws g.pattern.n) (root : at s.jperm r ≡ none)
    (t : Tree) (j : ℕ) (x : ℕ → Float) (column : j < g.pattern.n) (scanned : Scanned s r t.popped j)
    (X : Distances Good err C g s u v top (length t.popped) j x) where
  step : (k : ℕ) (a : Tree) → start g.pattern j ≤ k → k < end g.pattern j → Scanning Good err C g s u r rank v top j k a × Later t a
      → Scanning Good err C g s u r rank v top j (suc k) (edge g s.iperm (x k) j k a) × Later t (edge g s.iperm (x k) j k a)
  step k a lo hi (I, L) =
      let c : InColumn g.pattern j k = record { column = column; above = lo; below = hi } in
      let E : Tree.Edge Good err C g s u r a j k (x k) = record { from = rw L.popped scanned; entry = c; distance = rw L.popped (X.distance k c) } in
      let l = edge_later S a j k (x k) E I.grown in
      let done : Exact err g s u → Done g s u r v top j k a (edge g s.iperm (x k) j k a) =
      λ e. edge_order S M H root a j k (x k) E I.grown v top (I.order e) (X.exact e k c) (X.high e k c) in (
        record {
          grown = Tree.edge_keeps S M H root a j k (x k) E I.grown;
          covered = λ i m z. back_covered i m z l.0 l.1;
          order = λ e. (done e).order;
          near = λ e i m z. back_near e i m z l.0 (done e);
        },
        later_trans L l.0,
      )
    where
      -- an examined entry is this one, or was examined before
      earlier : (i m : ℕ) → Later a (edge g s.iperm (x k) j k a) → Examined g s r (edge g s.iperm (x k) j k a) j (suc k) i m
          → ((m ≡ k) × (i ≡ j)) ⊎ Examined g s r a j k i m
      earlier i m l (z, c, b) = go (ℕ_discrete i j)
        where
          z' : Scanned s r a.popped i
          z' = subst (λ (p : List ℕ). Scanned s r p i) l.popped z

          go : Dec (i ≡ j) → ((m ≡ k) × (i ≡ j)) ⊎ Examined g s r a j k i m
          go (no o) = inr (z', c, λ e. absurd (o e))
          go (yes e) = ⊎_elim (λ (q : suc m ≡ suc k). inl (omega arith, e)) (λ (q : suc m < suc k). inr (z', c, λ f. omega arith)) (eq-or-lt_of_le (b e))

      back_covered : (i m : ℕ) → Examined g s r (edge g s.iperm (x k) j k a) j (suc k) i m → Later a (edge g s.iperm (x k) j k a)
          → Covered g (edge g s.iperm (x k) j k a) k → Covered g (edge g s.iperm (x k) j k a) m
      back_covered i m z l h = ⊎_elim (λ (q : (m ≡ k) × (i ≡ j)). subst (Covered g (edge g s.iperm (x k) j k a)) (sym q.0) h)
          (λ (y : Examined g s r a j k i m). covered_later g m l (I.covered i m y)) (earlier i m l z)

      back_near : (e : Exact err g s u) (i m : ℕ) → Examined g s r (edge g s.iperm (x k) j k a) j (suc k) i m
          → Later a (edge g s.iperm (x k) j k a) → Done g s u r v top j k a (edge g s.iperm (x k) j k a)
          → Near g s u (edge g s.iperm (x k) j k a) (v i) m
      back_near e i m z l d = ⊎_elim (λ (q : (m ≡ k) × (i ≡ j)). rw (q.0, q.1) d.here)
          (λ (y : Examined g s r a j k i m). near_lower d.lower (I.near e i m y)) (earlier i m l z)

  -- up to any entry of the column, and to its end
  pub scan_to : (k : ℕ) → start g.pattern j ≤ k → k ≤ end g.pattern j → Scanning Good err C g s u r rank v top j (start g.pattern j) t
      → Scanning Good err C g s u r rank v top j k (each (start g.pattern j) k (λ i. edge g s.iperm (x i) j i) t)
      × Later t (each (start g.pattern j) k (λ i. edge g s.iperm (x i) j i) t)
  scan_to k lo hi I = each_keeps (λ i a. Scanning Good err C g s u r rank v top j i a × Later t a) (λ i. edge g s.iperm (x i) j i)
      (start g.pattern j) k t lo (λ i a l h p. step i a l (omega arith) p) (I, later_same t)

  pub scan_keeps : Scanning Good err C g s u r rank v top j (start g.pattern j) t → Scanning Good err C g s u r rank v top j (end g.pattern j)
      (each (start g.pattern j) (end g.pattern j) (λ k. edge g s.iperm (x k) j k) t) × Later t
      (each (start g.pattern j) (end g.pattern j) (λ k. edge g s.iperm (x k) j k) t)
  scan_keeps = scan_to (end g.pattern j) (S.columns.pointers.rises j column) (omega arith)
