-- A pairing from which an alternating walk leads to a free row is not largest (Berge), of every graph: the last column of the walk takes the free row,
-- and the row that it had is free then. A walk to that row is left, or a shorter one is cut off it, so that walks get shorter; no walk need be simple.
use mathlib.Core.Path.{◌≡◌, sym, ap, ◌∙◌}
use mathlib.Core.Logic.{◌≢◌, ◌⊎◌, inl, inr}
use mathlib.Core.Bool.{not}
use Prim.Native.Nat.{ℕ, zero, suc, ◌+◌, ◌≤◌, ◌<◌}
use native.Mathlib.Decide.{ℕ_discrete}
use native.Mathlib.Omega.{arith}
use lib.Dec.{T, eqb, eqb→eq}
use lib.Ieee.Fits.{eq→eqb}
use Rattle.matching.specs.Sum.{or_zero, updated}
use Rattle.matching.specs.Matching.{Bipartite, InRange, Simple, IsMatching, size}
use Rattle.matching.specs.Pairing.{paired_entries, matched_count}
use Rattle.matching.proofs.Updated.{updated_same, updated_other}
use Rattle.matching.proofs.Sums.{or_zero_pos, or_zero_true, or_zero_not, sum_change, Sent, counting, count_le}
use Rattle.matching.proofs.Pairings.{apart, not_eqb}

-- what stands in perm is none or the row of an entry of its column, and no row stands there twice
pub record Good (g : Bipartite) (none : ℕ) (perm : ℕ → ℕ) : Type 0 where
  pub outside : g.n ≤ none
  pub stand : (j : ℕ) → j < g.n → perm j ≢ none → (k : ℕ) × (k < g.entries) × (g.row k ≡ perm j) × (g.col k ≡ j)
  pub once : (i j : ℕ) → i < g.n → j < g.n → perm i ≢ none → perm i ≡ perm j → i ≡ j

-- ---- a good pairing is a matching of its count
module _ {g : Bipartite} (ok : InRange g) (simple : Simple g) {none : ℕ} {perm : ℕ → ℕ} (p : Good g none perm) where
  pair_row : (k : ℕ) → T (paired_entries g perm k) → perm (g.col k) ≡ g.row k
  unfolding paired_entries
  pair_row k t = eqb→eq (perm (g.col k)) (g.row k) t

  row_pair : (k : ℕ) → perm (g.col k) ≡ g.row k → T (paired_entries g perm k)
  unfolding paired_entries
  row_pair k e = eq→eqb e

  row_some : (k : ℕ) → k < g.entries → g.row k ≢ none
  row_some k h e = let z : ⊥ = omega (arith, ok.rows k h, p.outside) in z

  pub good_matching : IsMatching g (paired_entries g perm)
  good_matching = record {
    rows = λ k l b d s t e. simple k l b d e
        (p.once (g.col k) (g.col l) (ok.cols k b) (ok.cols l d) (λ z. row_some k b (sym (pair_row k s) ∙ z)) (pair_row k s ∙ e ∙ sym (pair_row l t)));
    cols = λ k l b d s t e. simple k l b d (sym (pair_row k s) ∙ ap perm e ∙ pair_row l t) e;
  }

  sent : (j : ℕ) → j < g.n → perm j ≢ none → Sent g.entries (λ i. or_zero (not (eqb (perm i) none)) 1) (λ k. or_zero (paired_entries g perm k) 1)
      (λ i k. g.col k ≡ i) j
  sent j h f =
      let r = p.stand j h f in
      let t : T (paired_entries g perm r.0) = row_pair r.0 (ap perm r.3 ∙ sym r.2) in
      record {
        place = r.0;
        range = r.1;
        sent = r.3;
        enough =
            omega (arith, or_zero_true (paired_entries g perm r.0) 1 t, or_zero_true (not (eqb (perm j) none)) 1 (not_eqb (perm j) none f));
      }

  pub good_size : size g (paired_entries g perm) ≡ matched_count none g.n perm
  unfolding size matched_count
  good_size =
      omega (
        arith,
        count_le g.entries g.n (paired_entries g perm) (λ j. not (eqb (perm j) none)) g.col
            (λ k b t. (ok.cols k b, not_eqb (perm (g.col k)) none (λ z. row_some k b (sym (pair_row k t) ∙ z))))
            good_matching.cols,
        counting g.n g.entries (λ j. or_zero (not (eqb (perm j) none)) 1) (λ k. or_zero (paired_entries g perm k) 1) (λ i k. g.col k ≡ i)
            (λ j b h. sent j b (apart (perm j) none (or_zero_pos (not (eqb (perm j) none)) 1 h)))
            (λ i j k b d e f. sym e ∙ f),
      )

-- ---- walks
-- an alternating walk from a column without a row to column j
pub data Walk (g : Bipartite) (none : ℕ) (perm : ℕ → ℕ) : ℕ → Type 0 where
  begins : {j : ℕ} → j < g.n → perm j ≡ none → Walk g none perm j
  goes : {j : ℕ} (k : ℕ) → k < g.entries → Walk g none perm (g.col k) → j < g.n → perm j ≡ g.row k → Walk g none perm j

unfoldable steps : {g : Bipartite} {none : ℕ} {perm : ℕ → ℕ} {j : ℕ} → Walk g none perm j → ℕ
steps (begins b e) = 0
steps (goes k h w b e) = suc (steps w)

-- ---- column j takes the free row of its entry k
module _ {g : Bipartite} {none : ℕ} {perm : ℕ → ℕ} (p : Good g none perm) (k : ℕ) (h : k < g.entries) (ok : InRange g)
    (free : (c : ℕ) → c < g.n → perm c ≢ g.row k) where
  abbrev j : ℕ
  j = g.col k

  abbrev next : ℕ → ℕ
  next = updated perm (g.col k) (g.row k)

  here : next j ≡ g.row k
  here = updated_same perm j (g.row k)

  there : (c : ℕ) → c ≢ j → next c ≡ perm c
  there c d = updated_other perm j (g.row k) c d

  taken : Good g none next
  taken = record { outside = p.outside; stand = stand; once = once }
    where
      stand : (c : ℕ) → c < g.n → next c ≢ none → (l : ℕ) × (l < g.entries) × (g.row l ≡ next c) × (g.col l ≡ c)
      stand c b f =
          elim (ℕ_discrete c j) [
            | yes e ↦ (k, h, sym (ap next e ∙ here), sym e)
            | no d ↦
                let r = p.stand c b (λ z. f (there c d ∙ z)) in
                (r.0, r.1, r.2 ∙ sym (there c d), r.3)
          ]

      once : (c d : ℕ) → c < g.n → d < g.n → next c ≢ none → next c ≡ next d → c ≡ d
      once c d b b' f e =
          elim (ℕ_discrete c j) [
            | yes q ↦ elim (ℕ_discrete d j) [
              | yes q' ↦ q ∙ sym q'
              | no o' ↦ absurd (free d b' (sym (there d o') ∙ sym e ∙ ap next q ∙ here))
            ]
            | no o ↦ elim (ℕ_discrete d j) [
              | yes q' ↦ absurd (free c b (sym (there c o) ∙ e ∙ ap next q' ∙ here))
              | no o' ↦ p.once c d b b' (λ z. f (there c o ∙ z)) (sym (there c o) ∙ e ∙ there d o')
            ]
          ]

  -- the count after the change
  change : matched_count none g.n next + or_zero (not (eqb (perm j) none)) 1 ≡ suc (matched_count none g.n perm)
  unfolding matched_count
  change =
      let count : ℕ → ℕ = λ a. or_zero (not (eqb a none)) 1 in
      omega (
        arith,
        sum_change g.n (λ c. count (next c)) (λ c. count (perm c)) j (ok.cols k h) (λ c b o. ap count (there c o)),
        ap count here,
        or_zero_true (not (eqb (g.row k) none)) 1 (not_eqb (g.row k) none (λ e. omega (arith, p.outside, ok.rows k h))),
      )

  count_free : perm j ≡ none → matched_count none g.n next ≡ suc (matched_count none g.n perm)
  count_free e = omega (arith, change, or_zero_not (eqb (perm j) none) 1 (eq→eqb e))

  module _ (had : perm j ≢ none) where
    count_same : matched_count none g.n next ≡ matched_count none g.n perm
    count_same = omega (arith, change, or_zero_true (not (eqb (perm j) none)) 1 (not_eqb (perm j) none had))

    -- the row that it had is free
    freed : (c : ℕ) → c < g.n → next c ≢ perm j
    freed c b e =
        elim (ℕ_discrete c j) [
          | yes q ↦ free j (ok.cols k h) (sym e ∙ ap next q ∙ here)
          | no o ↦ o (p.once c j b (ok.cols k h) (λ z. had (sym e ∙ there c o ∙ z)) (sym (there c o) ∙ e))
        ]

    -- a walk that ends with an entry in that row
    record Ends (m : ℕ) : Type 0 where
      entry : ℕ
      within : entry < g.entries
      row : g.row entry ≡ perm j
      walk : Walk g none next (g.col entry)
      few : steps walk ≤ m

    -- a walk is a walk still, or a shorter one ends there
    survives : {c : ℕ} (w : Walk g none perm c) → ((v : Walk g none next c) × (steps v ≤ steps w)) ⊎ Ends (steps w)
    unfolding steps
    survives {c} (begins b e) = inl (begins b (there c (λ q. had (ap perm (sym q) ∙ e)) ∙ e), omega arith)
    survives {c} (goes l b w d e) = go (survives w) (ℕ_discrete c j)
      where
        go : ((v : Walk g none next (g.col l)) × (steps v ≤ steps w)) ⊎ Ends (steps w) → Dec (c ≡ j)
            → ((v : Walk g none next c) × (steps v ≤ suc (steps w))) ⊎ Ends (suc (steps w))
        go (inl v) (yes q) = inr (record { entry = l; within = b; row = sym e ∙ ap perm q; walk = v.0; few = omega (arith, v.1) })
        go (inl v) (no o) = inl (goes l b v.0 d (there c o ∙ e), omega (arith, v.1))
        go (inr s) q = inr (record { entry = s.entry; within = s.within; row = s.row; walk = s.walk; few = omega (arith, s.few) })

-- ---- a walk to a free row
-- a pairing with one pair more
pub record Larger (g : Bipartite) (none count : ℕ) : Type 0 where
  pub perm : ℕ → ℕ
  pub good : Good g none perm
  pub more : matched_count none g.n perm ≡ suc count

module _ {g : Bipartite} (ok : InRange g) {none : ℕ} where
  along : (fuel : ℕ) {perm : ℕ → ℕ} (p : Good g none perm) (k : ℕ) (h : k < g.entries) (free : (c : ℕ) → c < g.n → perm c ≢ g.row k)
      (w : Walk g none perm (g.col k)) → steps w ≤ fuel → Larger g none (matched_count none g.n perm)
  unfolding steps
  along zero p k h free (begins b e) l = record { perm = next p k h ok free; good = taken p k h ok free; more = count_free p k h ok free e }
  along (suc fuel) p k h free (begins b e) l = record { perm = next p k h ok free; good = taken p k h ok free; more = count_free p k h ok free e }
  along zero p k h free (goes m d w b e) l = let z : ⊥ = omega arith in absurd z
  along (suc fuel) {perm} p k h free (goes m d w b e) l = go (survives p k h ok free had w) (along fuel (taken p k h ok free))
    where
      had : perm (g.col k) ≢ none
      had z = let q : ⊥ = omega (arith, ok.rows m d, p.outside, e) in q

      same : Larger g none (matched_count none g.n (next p k h ok free)) → Larger g none (matched_count none g.n perm)
      same r = record { perm = r.perm; good = r.good; more = r.more ∙ ap suc (count_same p k h ok free had) }

      loose : {i : ℕ} → i ≡ perm (g.col k) → (c : ℕ) → c < g.n → next p k h ok free c ≢ i
      loose q c b z = freed p k h ok free had c b (z ∙ q)

      go : ((v : Walk g none (next p k h ok free) (g.col m)) × (steps v ≤ steps w)) ⊎ Ends p k h ok free had (steps w)
          → ((a : ℕ) → a < g.entries → ((c : ℕ) → c < g.n → next p k h ok free c ≢ g.row a) → (v : Walk g none (next p k h ok free) (g.col a))
          → steps v ≤ fuel → Larger g none (matched_count none g.n (next p k h ok free)))
          → Larger g none (matched_count none g.n perm)
      go (inl v) on = same (on m d (loose (sym e)) v.0 (omega (arith, v.1, l)))
      go (inr s) on = same (on s.entry s.within (loose s.row) s.walk (omega (arith, s.few, l)))

  pub larger : {perm : ℕ → ℕ} → Good g none perm → (k : ℕ) → k < g.entries → Walk g none perm (g.col k) → ((c : ℕ) → c < g.n → perm c ≢ g.row k)
      → Larger g none (matched_count none g.n perm)
  larger p k h w free = along (steps w) p k h free w (omega arith)
