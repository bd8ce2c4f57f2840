-- An entry that a search examines leads to a path's end or to a touched row, and stays so. An edge changes neither the popped rows nor the counts. For
-- any accepted costs.
use mathlib.Core.Path.{◌≡◌, refl, sym, ap, ◌∙◌, subst}
use mathlib.Core.Logic.{inl, inr, ⊎_elim}
use mathlib.Core.Bool.{Bool, true, false, cond, ◌||◌, not, true≢false}
use mathlib.Core.List.{List, [], ◌∷◌, ◌++◌}
use Prim.Native.Nat.{ℕ}
use native.Mathlib.Nat.{lt_of_le_of_lt}
use borrow.Author.Tests.{ltb-true, leb-true, lt-ltb}
use lib.Dec.{T, T_not, eqb}
use lib.Ieee.{Float, lt, le, eq}
use Rattle.limits.specs.Limits.{none}
use Rattle.float64.specs.inner.Keys.{Ordered, position}
use Rattle.float64.specs.Constants.{rinf}
use Rattle.float64.proofs.Constants.{rinf_number}
use Rattle.float64.proofs.Order.{lt_key, le_key}
use Rattle.float64.proofs.WholeNumbers.{ordered}
use Rattle.sparse.specs.Pattern.{row_of}
use Rattle.hungarian.specs.Graph.{CostGraph}
use Rattle.hungarian.specs.Init.{Pairs}
use Rattle.hungarian.specs.Search.{Tree, among, reach, relax, edge}
use Rattle.hungarian.specs.inner.Setting.{Setting}
use Rattle.hungarian.specs.inner.Between.{at, dual}
use Rattle.hungarian.specs.inner.SearchTree.{Among, Covered, Grown, PathEnd}
use Rattle.sparse.proofs.Columns.{row_below}
use Rattle.hungarian.proofs.Rows.{among_stays, among_new}
use Rattle.hungarian.proofs.Tree as Tree

-- what an edge leaves alone, and what it only adds to
pub record Later (t t' : Tree) : Type 0 where
  pub popped : t'.popped ≡ t.popped
  pub stats : t'.stats ≡ t.stats
  pub found : lt t.csp rinf ≡ true → lt t'.csp rinf ≡ true
  pub touched : (i : ℕ) → Among i t.touched → Among i t'.touched

pub covered_later : (g : CostGraph) {t t' : Tree} (k : ℕ) → Later t t' → Covered g t k → Covered g t' k
covered_later g k l = ⊎_elim (λ f. inl (l.found f)) (λ a. inr (l.touched (row_of g.pattern k) a))

pub later_trans : {t t' t'' : Tree} → Later t t' → Later t' t'' → Later t t''
later_trans a b = record {
  popped = b.popped ∙ a.popped;
  stats = b.stats ∙ a.stats;
  found = λ f. b.found (a.found f);
  touched =
      λ i m. b.touched i (a.touched i m);
}

pub later_same : (t : Tree) → Later t t
later_same t = record { popped = refl; stats = refl; found = λ f. f; touched = λ i m. m }

module _ {Good : Float → Type 0} {err C : ℕ} {g : CostGraph} {s : Pairs} {u : List Float} {r : ℕ} {rank : ℕ → ℕ} (S : Setting Good err C g)
    (t : Tree) (j k : ℕ) (x : Float) (E : Tree.Edge Good err C g s u r t j k x) (G : Grown Good err C g s u r rank t) where
  finite : lt x rinf ≡ true
  finite = E.distance.distance.finite

  number : (y : Float) → Good y → Ordered y
  number y h = ordered y (S.laws.number y h)

  path_ordered : Ordered t.csp
  path_ordered = ⊎_elim (λ (e : t.csp ≡ rinf). subst Ordered (sym e) (ordered rinf rinf_number))
      (λ (p : PathEnd Good err C g s u r t.popped t.csp t.isp t.jsp). number t.csp p.distance.distance.good) G.best

  -- a path's cost that is at most x is finite
  by_path : le t.csp x ≡ true → lt t.csp rinf ≡ true
  by_path e =
      let x_ordered = number x E.distance.distance.good in
      let r-ordered = ordered rinf rinf_number in
      lt_key t.csp rinf path_ordered r-ordered
      ∙ lt-ltb (position t.csp) (position rinf)
      (lt_of_le_of_lt (leb-true (position t.csp) (position x) (sym (le_key t.csp x path_ordered x_ordered) ∙ e))
      (ltb-true (position x) (position rinf) (sym (lt_key x rinf x_ordered r-ordered) ∙ finite)))

  -- a row that x does not bring nearer was touched before
  by_row : lt x (dual t.d (row_of g.pattern k)) ≡ false → Among (row_of g.pattern k) t.touched
  by_row e = go (among (row_of g.pattern k) t.touched) (λ a. a) (λ n m. T_not (among (row_of g.pattern k) t.touched) n m)
    where
      go : (b : Bool) → (T b → Among (row_of g.pattern k) t.touched) → (T (not b) → Among (row_of g.pattern k) t.touched → ⊥)
          → Among (row_of g.pattern k) t.touched
      go true f h = f tt
      go false f h = absurd
          (true≢false (sym finite ∙ ap (lt x) (sym (G.far (row_of g.pattern k) (row_below g.pattern S.columns j k E.entry) (h tt))) ∙ e))

  reach_later : Later t (reach x j k t)
  unfolding reach
  reach_later = record { popped = refl; stats = refl; found = λ f. finite; touched = λ i m. m }

  -- the rows touched after a relaxation: one more where the distance was rinf
  relax_touched : (i : ℕ) → Among i t.touched → Among i (relax g s.iperm x j k t).touched
  unfolding relax
  relax_touched i m = go (eq (dual t.d (row_of g.pattern k)) rinf)
    where
      go : (b : Bool) → Among i (cond b (t.touched ++ (row_of g.pattern k ∷ [])) t.touched)
      go true = among_stays i (row_of g.pattern k) t.touched m
      go false = m

  relax_later : Later t (relax g s.iperm x j k t)
  unfolding relax
  relax_later = record { popped = refl; stats = refl; found = λ f. f; touched = relax_touched }

  relax_here : Among (row_of g.pattern k) (relax g s.iperm x j k t).touched
  relax_here = go (among (row_of g.pattern k) t.touched) (λ a. a) (λ n m. T_not (among (row_of g.pattern k) t.touched) n m)
    where
      new : dual t.d (row_of g.pattern k) ≡ rinf → Among (row_of g.pattern k) (relax g s.iperm x j k t).touched
      new e = unfold relax in rw (e, Tree.rinf_equal) (among_new (row_of g.pattern k) t.touched)

      go : (b : Bool) → (T b → Among (row_of g.pattern k) t.touched) → (T (not b) → Among (row_of g.pattern k) t.touched → ⊥)
          → Among (row_of g.pattern k) (relax g s.iperm x j k t).touched
      go true f h = relax_touched (row_of g.pattern k) (f tt)
      go false f h = new (G.far (row_of g.pattern k) (row_below g.pattern S.columns j k E.entry) (h tt))

  pub edge_later : Later t (edge g s.iperm x j k t) × Covered g (edge g s.iperm x j k t) k
  unfolding edge
  edge_later = go (among (row_of g.pattern k) t.popped) (λ a. a) (le t.csp x) refl (eqb (at s.iperm (row_of g.pattern k)) none)
      (lt x (dual t.d (row_of g.pattern k))) refl
    where
      go : (p : Bool) → (T p → Among (row_of g.pattern k) t.popped) → (q : Bool) → le t.csp x ≡ q → (f l : Bool)
          → lt x (dual t.d (row_of g.pattern k)) ≡ l
          → Later t (cond (p || q) t (cond f (reach x j k t) (cond l (relax g s.iperm x j k t) t)))
          × Covered g (cond (p || q) t (cond f (reach x j k t) (cond l (relax g s.iperm x j k t) t))) k
      go true a q b f l c = (later_same t, inr (G.popped_touched (row_of g.pattern k) (a tt)))
      go false a true b f l c = (later_same t, inl (by_path b))
      go false a false b true l c = (reach_later, inl (unfold reach in finite))
      go false a false b false false c = (later_same t, inr (by_row c))
      go false a false b false true c = (relax_later, inr relax_here)
