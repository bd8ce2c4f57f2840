-- Pairs are flipped from the path's end back to the root: each turn is a step of the definition's `walk`, and the words after the pairs stay.
use mathlib.Core.Path.{◌≡◌, refl, sym, ap, ◌∙◌, subst}
use mathlib.Core.Logic.{◌⊎◌, inl, inr, ⊎_elim, ◌≢◌}
use mathlib.Core.List.{List}
use Prim.Native.Nat.{ℕ, zero, suc, ◌+◌, ◌-◌, ◌*◌, ◌≤◌, ◌<◌}
use native.Mathlib.Omega.{arith}
use borrow.Author.Tests.{eq-eqb, ne_eqb}
use lib.Dec.{lit<}
use lib.ListN.{length, get_or, set, drop, length-set}
use lib.Seq.{get_or-drop, get_or-set_other, drop-set-lt}
use Rattle.limits.specs.Limits.{none}
use Rattle.sparse.specs.Pattern.{row_of}
use Rattle.hungarian.specs.Graph.{CostGraph}
use Rattle.hungarian.specs.Init.{Pairs}
use Rattle.hungarian.specs.inner.Layout.{region, iperm_at, jperm_at, pr_at, out_at}
use Rattle.hungarian.specs.Search.{Tree, walk, flip}
use Rattle.hungarian.specs.inner.SearchTree.{Scanned}
use Rattle.hungarian.proofs.Regions.{region_ends, region_at, region_set, region_other, region_apart}
use Rattle.hungarian_path.specs.inner.StepsFlip.{pairs_at, WalkReady, Walks, Flips}

-- a pair is stored
pair_set : (n : ℕ) (w : List ℕ) (i j k num : ℕ) → i < n → j < n → pairs_at n (set (set w i j) (n + j) k) num ≡ record {
  iperm =
      set (region iperm_at n w) i j;
  jperm = set (region jperm_at n w) j k;
  num = num;
}
pair_set n w i j k num hi hj =
    let a : set w i j ≡ set w (0 * n + i) j = ap (λ (p : ℕ). set w p j) (let e : i ≡ 0 * n + i = omega arith in e) in
    let b : set (set w i j) (n + j) k ≡ set (set w (0 * n + i) j) (1 * n + j) k =
    ap (λ (l : List ℕ). set l (n + j) k) a ∙ ap (λ (p : ℕ). set (set w (0 * n + i) j) p k) (let e : n + j ≡ 1 * n + j = omega arith in e) in
    let c : region 0 n (set (set w i j) (n + j) k) ≡ set (region 0 n w) i j =
    ap (region 0 n) b ∙ region_apart 0 n (set w (0 * n + i) j) 1 j k hj (inl (lit< tt)) ∙ region_set 0 n w i j hi in
    let d : region 1 n (set (set w i j) (n + j) k) ≡ set (region 1 n w) j k = ap (region 1 n) b ∙ region_set 1 n (set w (0 * n + i) j) j k hj
    ∙ ap (λ (l : List ℕ). set l j k) (region_apart 1 n w 0 i j hi (inr (lit< tt))) in
    λ z. record { iperm = c z; jperm = d z; num = num }

pair_rest : (n : ℕ) (w : List ℕ) (i j k : ℕ) → i < n → j < n → drop (2 * n) (set (set w i j) (n + j) k) ≡ drop (2 * n) w
pair_rest n w i j k hi hj = drop-set-lt (2 * n) (set w i j) (n + j) k (omega arith) ∙ drop-set-lt (2 * n) w i j (omega arith)

-- at column `column`, with at most `left` steps to go
pub record WalkAt (n : ℕ) (rows w₀ : List ℕ) (j most : ℕ) (w : List ℕ) (column left : ℕ) : Type 0 where
  pub ready : WalkReady n rows w₀ j
  pub on : Scanned ready.s ready.r ready.popped column
  pub below : column < n
  pub long : length w ≡ length w₀
  pub rest : drop (2 * n) w ≡ drop (2 * n) w₀
  pub run : (g : CostGraph) (t : Tree) (num : ℕ) → g.pattern.row_idx ≡ rows → t.pr ≡ region pr_at n w₀ → t.out ≡ region out_at n w₀ → walk g t left column
      (pairs_at n w num) ≡ walk g t most j (pairs_at n w₀ num)

pub walk_start : {n : ℕ} {rows w₀ : List ℕ} {j : ℕ} (most left : ℕ) → left ≡ most → WalkReady n rows w₀ j → WalkAt n rows w₀ j most w₀ j left
walk_start most left all R =
    record { ready = R; on = R.on; below = R.column _ R.on; long = refl; rest = refl; run = λ g t num e a b. rw all refl }

module _ {n : ℕ} {rows w₀ : List ℕ} {j most : ℕ} {w : List ℕ} {column left : ℕ} (I : WalkAt n rows w₀ j most w column left) where
  abbrev R : WalkReady n rows w₀ j
  R = I.ready

  back : (p : ℕ) → 2 * n ≤ p → get_or w p 0 ≡ get_or w₀ p 0
  back p h =
      let e : 2 * n + (p - 2 * n) ≡ p = omega arith in
      subst (λ (x : ℕ). get_or w x 0 ≡ get_or w₀ x 0) e (sym (get_or-drop (2 * n) w (p - 2 * n) 0) ∙ ap (λ (l : List ℕ). get_or l (p - 2 * n) 0) I.rest
      ∙ get_or-drop (2 * n) w₀ (p - 2 * n) 0)

  before_is : get_or w (4 * n + column) 0 ≡ get_or w₀ (4 * n + column) 0
  before_is = back (4 * n + column) (omega arith)

  entry_is : get_or w (5 * n + column) 0 ≡ get_or w₀ (5 * n + column) 0
  entry_is = back (5 * n + column) (omega arith)

  -- the steps of the definition
  pr_word : (t : Tree) → t.pr ≡ region pr_at n w₀ → get_or t.pr column 0 ≡ get_or w (4 * n + column) 0
  pr_word t a = ap (λ (l : List ℕ). get_or l column 0) a ∙ region_at 4 n w₀ column 0 I.below ∙ sym before_is

  out_word : (t : Tree) → t.out ≡ region out_at n w₀ → get_or t.out column 0 ≡ get_or w (5 * n + column) 0
  out_word t a = ap (λ (l : List ℕ). get_or l column 0) a ∙ region_at 5 n w₀ column 0 I.below ∙ sym entry_is

  stops : (g : CostGraph) (t : Tree) (s : Pairs) (m : ℕ) → (m ≡ 0) ⊎ (get_or t.pr column 0 ≡ none) → walk g t m column s ≡ s
  unfolding walk
  stops g t s zero z = refl
  stops g t s (suc m) (inl e) = let f : ⊥ = omega arith in absurd f
  stops g t s (suc m) (inr e) = rw (eq-eqb (get_or t.pr column 0) none e)

  pub walk_end : (left ≡ 0) ⊎ (get_or w (4 * n + column) 0 ≡ none) → Walks n rows w₀ w j most
  walk_end z = record {
    pairs =
        λ g t num e a b. sym (stops g t (pairs_at n w num) left
        (⊎_elim (λ (h : left ≡ 0). inl h) (λ (h : get_or w (4 * n + column) 0 ≡ none). inr (pr_word t a ∙ h)) z)) ∙ I.run g t num e a b;
    rest = I.rest;
  }

  module _ (more : get_or w (4 * n + column) 0 ≢ none) where
    step : Scanned R.s R.r R.popped (get_or w (4 * n + column) 0) × (get_or w (5 * n + column) 0 < length rows)
    step = go (R.next column I.on)
      where
        go : (get_or w₀ (4 * n + column) 0 ≡ none)
            ⊎ (Scanned R.s R.r R.popped (get_or w₀ (4 * n + column) 0) × (get_or w₀ (5 * n + column) 0 < length rows)) → Scanned R.s R.r
            R.popped (get_or w (4 * n + column) 0) × (get_or w (5 * n + column) 0 < length rows)
        go (inl e) = absurd (more (before_is ∙ e))
        go (inr (a, b)) = (subst (Scanned R.s R.r R.popped) (sym before_is) a, subst (λ (x : ℕ). x < length rows) (sym entry_is) b)

    pub there : (get_or w (4 * n + column) 0 < n) × (get_or w (5 * n + column) 0 < length rows) × (get_or rows (get_or w (5 * n + column) 0) 0 < n)
        × (length rows ≤ 262144)
    there = (R.column (get_or w (4 * n + column) 0) step.0, step.1, R.inside (get_or w (5 * n + column) 0) step.1, R.few_entries)

    goes : (g : CostGraph) (t : Tree) (s : Pairs) (m : ℕ) → get_or t.pr column 0 ≢ none → walk g t (suc m) column s ≡ walk g t m
        (get_or t.pr column 0) (record {
          iperm = set s.iperm (row_of g.pattern (get_or t.out column 0)) (get_or t.pr column 0);
          jperm =
              set s.jperm (get_or t.pr column 0) (get_or t.out column 0);
          num = s.num;
        })
    unfolding walk
    goes g t s m o = rw (ne_eqb (get_or t.pr column 0) none o)

    -- with words in place of the tree's lists
    stored : (g : CostGraph) (t : Tree) (num m b o : ℕ) → get_or t.pr column 0 ≡ b → get_or t.out column 0 ≡ o → b ≢ none → g.pattern.row_idx ≡ rows
        → b < n → get_or rows o 0 < n → walk g t m b (pairs_at n (set (set w (get_or rows o 0) b) (n + b) o) num) ≡ walk g t (suc m) column (pairs_at n w num)
    stored g t num m b o p q z e hb ho =
        ap (walk g t m b) (pair_set n w (get_or rows o 0) b o num ho hb)
        ∙ sym (goes g t (pairs_at n w num) m (λ f. z (sym p ∙ f))
        ∙ (λ y. walk g t m (p y)
        (record { iperm = set (region iperm_at n w) (get_or (e y) (q y) 0) (p y); jperm = set (region jperm_at n w) (p y) (q y); num = num })))

    pub walk_turn : (next : ℕ) → suc next ≡ left → WalkAt n rows w₀ j most
        (set (set w (get_or rows (get_or w (5 * n + column) 0) 0) (get_or w (4 * n + column) 0)) (n + get_or w (4 * n + column) 0)
        (get_or w (5 * n + column) 0)) (get_or w (4 * n + column) 0) next
    walk_turn next l = record {
      ready = R;
      below = there.0;
      long = simp length-set I.long;
      rest = pair_rest n w (get_or rows (get_or w (5 * n + column) 0) 0) (get_or w (4 * n + column) 0) (get_or w (5 * n + column) 0) there.2 there.0 ∙ I.rest;
      on = step.0;
      run = λ g t num e a b.
          stored g t num next (get_or w (4 * n + column) 0) (get_or w (5 * n + column) 0) (pr_word t a) (out_word t b) more e there.0 there.2
          ∙ ap (λ (m : ℕ). walk g t m column (pairs_at n w num)) l ∙ I.run g t num e a b;
    }

-- ---- the whole path: its last pair, then the walk
module _ (n : ℕ) (rows w : List ℕ) (k j num : ℕ) (R : WalkReady n rows w j) (entry : k < length rows) where
  pub flip_ranges : (get_or rows k 0 < n) × (j < n) × (n ≤ 4096) × (length w ≡ 12 * n + 1) × (length rows ≤ 262144)
  flip_ranges = (R.inside k entry, R.column j R.on, R.workspace.small, R.workspace.words, R.few_entries)

  front : (p : ℕ) → 2 * n ≤ p → get_or (set (set w (get_or rows k 0) j) (n + j) k) p 0 ≡ get_or w p 0
  front p h = get_or-set_other (set w (get_or rows k 0) j) (n + j) p k 0 (λ e. omega (arith, flip_ranges)) ∙ get_or-set_other w (get_or rows k 0) p j 0
      (λ e. omega (arith, flip_ranges))

  pub linked_ready : WalkReady n rows (set (set w (get_or rows k 0) j) (n + j) k) j
  linked_ready = record {
    workspace = record { words = simp length-set R.workspace.words; small = R.workspace.small };
    few_entries = R.few_entries;
    inside = R.inside;
    s = R.s;
    r = R.r;
    popped = R.popped;
    on = R.on;
    column = R.column;
    next = λ c z. rw (front (4 * n + c) (omega arith), front (5 * n + c) (omega arith)) (R.next c z);
  }

  linked_region : (r : ℕ) → 1 < r → region r n (set (set w (get_or rows k 0) j) (n + j) k) ≡ region r n w
  linked_region r h = region_other r n (set w (get_or rows k 0) j) (n + j) k (inl (let z = region_ends 1 r n h in omega (arith, flip_ranges)))
      ∙ region_other r n w (get_or rows k 0) j (inl (let z = region_ends 1 r n h in omega (arith, flip_ranges)))

  pub flip_done : (w' : List ℕ) → Walks n rows (set (set w (get_or rows k 0) j) (n + j) k) w' j (num + 1) → Flips n rows w w' k j num
  unfolding flip
  flip_done w' W = record {
    pairs = λ g t e a b.
        W.pairs g t (num + 1) e (a ∙ sym (linked_region 4 (lit< tt))) (b ∙ sym (linked_region 5 (lit< tt))) ∙ ap (walk g t (num + 1) j)
        (pair_set n w (get_or rows k 0) j k (num + 1) flip_ranges.0 flip_ranges.1)
        ∙ ap (λ (l : List ℕ). walk g t (num + 1) j
        (record { iperm = set (region iperm_at n w) (get_or l k 0) j; jperm = set (region jperm_at n w) j k; num = num + 1 })) (sym e);
    rest = W.rest ∙ pair_rest n w (get_or rows k 0) j k flip_ranges.0 flip_ranges.1;
  }
