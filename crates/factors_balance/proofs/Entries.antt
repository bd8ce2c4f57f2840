-- The entries of the cost graph of a symmetric matrix: each is made of a kept place, and each kept place makes one in the column of its column and one
-- in that of its row, mirrors of each other. So every entry has a mirror.
use mathlib.Core.Path.{◌≡◌, refl, sym, ap, ◌∙◌, subst}
use mathlib.Core.Bool.{true}
use mathlib.Core.List.{List, [], ◌∷◌, ◌++◌}
use mathlib.Core.Logic.{inl, inr, ⊎_elim}
use Prim.Native.Nat.{ℕ, zero, suc, ◌+◌, ◌<◌}
use native.Mathlib.Nat.{not-suc-le-zero}
use native.Mathlib.Decide.{ℕ_discrete}
use native.Mathlib.Omega.{arith}
use borrow.Author.Tests.{eq-eqb, ne_eqb, not-true}
use lib.Ieee.{Float, nan, binary64, sub}
use lib.ListN.{length, get_or, length-append, get_or-append}
use Rattle.slices.specs.Lists.{keep}
use Rattle.slices.proofs.Lists.{get_d_last}
use Rattle.sparse.specs.Matrix.{Matrix}
use Rattle.matching.proofs.Mirror.{Mirror, Symmetric}
use Rattle.sparse.specs.Pattern.{bipartite, row_of, column_of, entries}
use Rattle.hungarian.specs.Graph.{CostGraph, cost_of, graph_of}
use Rattle.mc64_columns.specs.Columns.{largest}
use Rattle.mc64_columns.specs.Graphs.{logs_of, kept_before, graph_pointers, graph_rows, graph_costs}
use Rattle.mc64_columns.proofs.Entries as Columns
use Rattle.mc64_symmetric.specs.Graph.{kept, touches, places_to, places_of, other_end, mirrored_columns}
use Rattle.mc64_symmetric.specs.inner.Steps.{Triangle}
use Rattle.mc64_symmetric.proofs.Places.{in_row, in_column_lem as own-column}
use Rattle.mc64_symmetric.proofs.Theorems.{Takes, taken, stands, graph_rises}
use Rattle.factors_balance.specs.Balance.{KeptEntry}

-- the graph of the matrix
abbrev pub symmetric_graph : Matrix → List Float → CostGraph
symmetric_graph m logs = graph_of m.pattern.n (graph_pointers (mirrored_columns m) m.pattern.n) (graph_rows (mirrored_columns m) m.pattern.n)
    (graph_costs (mirrored_columns m) logs m.pattern.n)

-- the largest log of column c
abbrev pub top_of : Matrix → List Float → ℕ → Float
top_of m logs c = largest (logs_of (mirrored_columns m) logs c)

-- ---- the two ends of a place
module _ (m : Matrix) (p : ℕ) where
  mirrored : (c : ℕ) → row_of m.pattern p ≡ c → other_end m c p ≡ column_of m.pattern p
  mirrored c e = rw (eq-eqb (row_of m.pattern p) c e)

  stored : (c : ℕ) → (row_of m.pattern p ≡ c → ⊥) → other_end m c p ≡ row_of m.pattern p
  stored c e = rw (ne_eqb (row_of m.pattern p) c e)

  -- seen from its column
  pub from_column : other_end m (column_of m.pattern p) p ≡ row_of m.pattern p
  from_column = go (ℕ_discrete (row_of m.pattern p) (column_of m.pattern p))
    where
      go : Dec (row_of m.pattern p ≡ column_of m.pattern p) → other_end m (column_of m.pattern p) p ≡ row_of m.pattern p
      go (yes e) = mirrored (column_of m.pattern p) e ∙ sym e
      go (no e) = stored (column_of m.pattern p) e

  -- and from its row
  pub from_row : other_end m (row_of m.pattern p) p ≡ column_of m.pattern p
  from_row = mirrored (row_of m.pattern p) refl

  -- the other end takes the place too, and sees this one
  pub other_takes : (c : ℕ) → Takes m c p → Takes m (other_end m c p) p × (other_end m (other_end m c p) p ≡ c)
  other_takes c (inl e) =
      let q : other_end m c p ≡ column_of m.pattern p = mirrored c e in
      (inr (sym q), ap (λ (x : ℕ). other_end m x p) q ∙ from_column ∙ e)
  other_takes c (inr e) =
      let q : other_end m c p ≡ row_of m.pattern p = ap (λ (x : ℕ). other_end m x p) (sym e) ∙ from_column in
      (inl (sym q), ap (λ (x : ℕ). other_end m x p) q ∙ from_row ∙ e)

-- ---- the number of a place in a column
module _ (m : Matrix) (c p : ℕ) (K : kept m p ≡ true) (t : Takes m c p) where
  appended : places_to m c (suc p) ≡ places_to m c p ++ (p ∷ [])
  appended = ⊎_elim (in_row m c p (not-true _ K)) (own-column m c p (not-true _ K)) t

  pub number_of : (k : ℕ) → p < k → (i : ℕ) × (i < length (places_to m c k)) × (get_or (places_to m c k) i 0 ≡ p)
  unfolding places_to
  number_of zero h = absurd (not-suc-le-zero h)
  number_of (suc k) h = go (ℕ_discrete p k) (number_of k)
    where
      go : Dec (p ≡ k) → (p < k → (i : ℕ) × (i < length (places_to m c k)) × (get_or (places_to m c k) i 0 ≡ p))
          → (i : ℕ) × (i < length (places_to m c k ++ keep (touches m c k) k)) × (get_or (places_to m c k ++ keep (touches m c k) k) i 0 ≡ p)
      go (yes e) f =
          subst (λ (x : ℕ). (i : ℕ) × (i < length (places_to m c (suc x))) × (get_or (places_to m c (suc x)) i 0 ≡ p)) e
          (length (places_to m c p), rw appended (omega (arith, length-append (places_to m c p) (p ∷ []))), rw appended (get_d_last (places_to m c p) p 0))
      go (no e) f =
          let (i, l, q) = f (omega arith) in
          (i, omega (arith, length-append (places_to m c k) (keep (touches m c k) k)), get_or-append (places_to m c k) (keep (touches m c k) k) 0 i l ∙ q)

-- ---- entries
module _ (m : Matrix) (logs : List Float) (t : Triangle m) where
  abbrev graph : CostGraph
  graph = symmetric_graph m logs

  -- entry e of column c is made of place p
  pub record MadeOf (e c p : ℕ) : Type 0 where
    pub within : e < entries graph.pattern
    pub inside : c < m.pattern.n
    pub column : column_of graph.pattern e ≡ c
    pub row : row_of graph.pattern e ≡ other_end m c p
    pub cost : cost_of graph e ≡ sub binary64 (top_of m logs c) (get_or logs p nan)
    pub some : 0 < length (places_of m c)
    pub place : KeptEntry m p
    pub takes : Takes m c p

  -- place i of column c makes entry e
  of_place : (e c i : ℕ) → i < length (places_of m c) → Columns.MadeOf m.pattern.n (mirrored_columns m) logs (graph_rises m t) e c (get_or (places_of m c) i 0)
      → MadeOf e c (get_or (places_of m c) i 0)
  of_place e c i l E =
      let p = taken m c (length m.pattern.row_idx) i l in
      record {
        within = E.within;
        inside = E.inside;
        column = E.column;
        row = E.row;
        cost = E.cost;
        some = omega arith;
        place = record { stored = p.0; is_kept = p.2 };
        takes = p.1;
      }

  -- every entry is made of a place
  pub made : (e : ℕ) → e < entries graph.pattern → (p : ℕ) × MadeOf e (column_of graph.pattern e) p
  made e h =
      let c = column_of graph.pattern e in
      let (p, E) = Columns.made m.pattern.n (mirrored_columns m) logs (graph_rises m t) e h in
      let q = E.place in (
        get_or (places_of m c) E.number 0,
        of_place e c E.number E.stands
            (subst (λ (x : ℕ). Columns.MadeOf m.pattern.n (mirrored_columns m) logs (graph_rises m t) e c x) (sym q) E),
      )

  -- and every kept place makes one in each column that takes it
  pub makes : (c p : ℕ) → KeptEntry m p → Takes m c p → (e : ℕ) × MadeOf e c p
  makes c p K u =
      let (i, l, q) = number_of m c p K.is_kept u (length m.pattern.row_idx) K.stored in
      let e = kept_before (mirrored_columns m) c + i in (
        e,
        subst (λ (x : ℕ). MadeOf e c x) q
            (of_place e c i l (Columns.made_at m.pattern.n (mirrored_columns m) logs (graph_rises m t) c i inside l (get_or (places_of m c) i 0) refl)),
      )
    where
      inside : c < m.pattern.n
      inside = ⊎_elim (λ (e : row_of m.pattern p ≡ c). omega (arith, t.columns.inside p K.stored))
          (λ (e : column_of m.pattern p ≡ c). omega (arith, (stands m t p K.stored).column)) u

  -- the mirror of an entry is made of the same place
  pub mirror_made : (e p : ℕ) → MadeOf e (column_of graph.pattern e) p → (l : ℕ) × Mirror (bipartite graph.pattern) e l × MadeOf l
      (row_of graph.pattern e) p
  mirror_made e p M =
      let o = other_takes m p (column_of graph.pattern e) M.takes in
      let u : Takes m (row_of graph.pattern e) p = subst (λ (x : ℕ). Takes m x p) (sym M.row) o.0 in
      let (l, L) = makes (row_of graph.pattern e) p M.place u in
      (l, record { within = L.within; row = L.row ∙ ap (λ (x : ℕ). other_end m x p) M.row ∙ o.1; col = L.column }, L)

  pub mirrors : Symmetric (bipartite graph.pattern)
  mirrors e h = let (p, M) = made e h in let (l, q, L) = mirror_made e p M in (l, q)
