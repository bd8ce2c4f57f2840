-- Two laws of every graph. A complete matching that costs no more than one that potentials show to be of least total is tight at each of its entries:
-- a sum of slacks that is 0 has none above 0.
-- Where every entry has a mirror, and the costs of the two differ as numbers of their rows do, the mirrored matching is of the same total, and so it
-- is tight too.
use mathlib.Core.Path.{◌≡◌, refl, sym, ◌∙◌, subst}
use mathlib.Core.Logic.{◌≢◌}
use mathlib.Core.Bool.{Bool, not}
use Prim.Native.Nat.{ℕ, ◌+◌, ◌≤◌, ◌<◌}
use native.Mathlib.Nat.{mul-one}
use native.Mathlib.Decide.{ℕ_discrete}
use native.Mathlib.Omega.{arith}
use lib.Dec.{T, eqb, eqb_refl}
use Rattle.matching.specs.Sum.{sum_to, or_zero, updated}
use Rattle.matching.specs.Matching.{Bipartite, InRange, Simple, IsMatching, size, total, Complete}
use Rattle.matching.proofs.Updated.{updated_same, updated_other}
use Rattle.matching.proofs.Sums.{or_zero_true, or_zero_le, or_zero_add, sum_le, sum_same, sum_add, sum_const, sum_under, sum_updated, sum_parts}
use Rattle.matching.proofs.Sums.{Sent, counting, count_le}
use Rattle.matching.proofs.Matchings.{Potentials, least_total}
use Rattle.matching.proofs.Pairings.{not_eqb}

-- ---- sums

-- where a sum is no less than one that is above it at each place, the two are the same at each
pub sum_tight : (n : ℕ) (v w : ℕ → ℕ) → ((i : ℕ) → i < n → v i ≤ w i) → sum_to n w ≤ sum_to n v → (i : ℕ) → i < n → v i ≡ w i
sum_tight n v w h e i b = omega (arith, e, h i b, sum_le n v (updated w i (v i)) lowered, sum_updated n w i (v i) b)
  where
    lowered : (j : ℕ) → j < n → v j ≤ updated w i (v i) j
    lowered j c =
        elim (ℕ_discrete j i) [
          | yes q ↦ subst (λ (x : ℕ). v x ≤ updated w i (v i) x) (sym q) (omega (arith, updated_same w i (v i)))
          | no d ↦ omega (arith, updated_other w i (v i) j d, h j c)
        ]

pub total_add : (g : Bipartite) (c e : ℕ → ℕ) (X : ℕ → Bool) → total g (λ k. c k + e k) X ≡ total g c X + total g e X
unfolding total
total_add g c e X =
    sum_same g.entries (λ k. or_zero (X k) (c k + e k)) (λ k. or_zero (X k) (c k) + or_zero (X k) (e k)) (λ k b. or_zero_add (X k) (c k) (e k))
    ∙ sum_add g.entries (λ k. or_zero (X k) (c k)) (λ k. or_zero (X k) (e k))

-- ---- every complete matching of the same total

module _ {g : Bipartite} (ok : InRange g) where
  -- costs that are sums of potentials are as much for one complete matching as for another
  even_least : {S R : ℕ → Bool} → Complete g S → Complete g R → (e a b : ℕ → ℕ) → ((k : ℕ) → k < g.entries → e k ≡ a (g.row k) + b (g.col k))
      → total g e S ≤ total g e R
  even_least {S} {R} s r e a b h =
      (least_total {c = e} {a = a} {b = b} {m = 0} ok s (record { below = λ k l. omega (arith, h k l); tight = λ k l t. omega (arith, h k l) })).least R r

  pub even : {S R : ℕ → Bool} → Complete g S → Complete g R → (e a b : ℕ → ℕ) → ((k : ℕ) → k < g.entries → e k ≡ a (g.row k) + b (g.col k))
      → total g e S ≡ total g e R
  even s r e a b h = omega (arith, even_least s r e a b h, even_least r s e a b h)

  -- potentials that show S to be of least total are tight at every entry of a complete matching that costs no more
  pub tight_throughout : {c : ℕ → ℕ} {S R : ℕ → Bool} {a b : ℕ → ℕ} {m : ℕ} → Complete g S → Potentials g c S a b m → Complete g R → total g c R ≤ total g c S
      → (k : ℕ) → k < g.entries → T (R k) → a (g.row k) + b (g.col k) ≡ c k + m
  unfolding total
  tight_throughout {c} {S} {R} {a} {b} {m} s pot r cheap k h t =
      sym (or_zero_true (R k) (p k) t) ∙ sum_tight g.entries (λ l. or_zero (R l) (p l)) (λ l. or_zero (R l) (d l)) below enough k h
      ∙ or_zero_true (R k) (d k) t
    where
      p : ℕ → ℕ
      p l = a (g.row l) + b (g.col l)

      d : ℕ → ℕ
      d l = c l + m

      below : (l : ℕ) → l < g.entries → or_zero (R l) (p l) ≤ or_zero (R l) (d l)
      below l i = or_zero_le (R l) (R l) (p l) (d l) (λ u. u) (λ u. pot.below l i)

      held : total g d S ≤ total g p S
      held = sum_le g.entries (λ l. or_zero (S l) (d l)) (λ l. or_zero (S l) (p l))
          (λ l i. or_zero_le (S l) (S l) (d l) (p l) (λ u. u) (λ u. omega (arith, pot.tight l i u)))

      totals : total g d R ≤ total g p R
      totals =
          omega (
            arith,
            cheap,
            held,
            total_add g c (λ l. m) R,
            total_add g c (λ l. m) S,
            even s r (λ l. m) (λ i. m) (λ j. 0) (λ l i. omega arith),
            even s r p a b (λ l i. refl),
          )

      enough : sum_to g.entries (λ l. or_zero (R l) (d l)) ≤ sum_to g.entries (λ l. or_zero (R l) (p l))
      enough = totals

  -- no row is left out by a complete matching
  pub rows_covered : {S : ℕ → Bool} → Complete g S → (i : ℕ) → i < g.n → ((k : ℕ) → k < g.entries → T (S k) → g.row k ≢ i) → ⊥
  unfolding size
  rows_covered {S} s i b none =
      omega (
        arith,
        s.full,
        count_le g.entries g.n S (λ j. not (eqb j i)) g.row (λ k h t. (ok.rows k h, not_eqb (g.row k) i (none k h t))) s.matching.rows,
        sum_parts g.n (λ j. eqb j i) (λ j. 1),
        sum_const g.n 1,
        mul-one g.n,
        sum_under g.n (λ j. or_zero (eqb j i) 1) i b,
        or_zero_true (eqb i i) 1 (eqb_refl i),
      )

-- ---- mirrored matchings

-- entry l joins the column of entry k, as a row, to the row of k, as a column
pub record Mirror (g : Bipartite) (k l : ℕ) : Type 0 where
  pub within : l < g.entries
  pub row : g.row l ≡ g.col k
  pub col : g.col l ≡ g.row k

-- every entry has a mirror
abbrev pub Symmetric : Bipartite → Type 0
Symmetric g = (k : ℕ) → k < g.entries → (l : ℕ) × Mirror g k l

-- R has the mirrors of the entries of S
abbrev pub Mirrors : Bipartite → (ℕ → Bool) → (ℕ → Bool) → Type 0
Mirrors g S R = (k l : ℕ) → k < g.entries → Mirror g k l → R k ≡ S l

module _ {g : Bipartite} (ok : InRange g) (simple : Simple g) (mirror : Symmetric g) where
  turned : (k l : ℕ) → k < g.entries → Mirror g k l → Mirror g l k
  turned k l h q = record { within = h; row = sym q.col; col = sym q.row }

  -- a mirror has one entry
  once : (k k' l : ℕ) → k < g.entries → k' < g.entries → Mirror g k l → Mirror g k' l → k ≡ k'
  once k k' l h h' q q' = simple k k' h h' (sym q.col ∙ q'.col) (sym q.row ∙ q'.row)

  total_most : {S R : ℕ → Bool} → Mirrors g S R → (c e : ℕ → ℕ) → ((k l : ℕ) → k < g.entries → Mirror g k l → c k ≡ e l) → total g c R ≤ total g e S
  unfolding total
  total_most {S} {R} M c e h = counting g.entries g.entries (λ k. or_zero (R k) (c k)) (λ l. or_zero (S l) (e l)) (Mirror g) send (λ k k' l. once k k' l)
    where
      send : (k : ℕ) → k < g.entries → 0 < or_zero (R k) (c k) → Sent g.entries (λ k. or_zero (R k) (c k)) (λ l. or_zero (S l) (e l)) (Mirror g) k
      send k b p =
          let (l, q) = mirror k b in
          record { place = l; range = q.within; sent = q; enough = or_zero_le (R k) (S l) (c k) (e l) (subst T (M k l b q)) (λ t. omega (arith, h k l b q)) }

  module _ {S R : ℕ → Bool} (M : Mirrors g S R) where
    back : Mirrors g R S
    back k l h q = sym (M l k q.within (turned k l h q))

    -- a sum over R is the sum of the mirrored costs over S
    pub mirrored_total : (c e : ℕ → ℕ) → ((k l : ℕ) → k < g.entries → Mirror g k l → c k ≡ e l) → total g c R ≡ total g e S
    mirrored_total c e h = omega (arith, total_most M c e h, total_most back e c (λ k l b q. sym (h l k q.within (turned k l b q))))

    -- R has the entries of a matching as S has
    mirrored_matching : IsMatching g S → IsMatching g R
    mirrored_matching s = record {
      rows = λ k k' b b' t t' e. same k k' b b' (mirror k b) (mirror k' b') t t'
          (λ l l' q q' u u'. s.cols l l' q.within q'.within u u' (q.col ∙ e ∙ sym q'.col));
      cols = λ k k' b b' t t' e. same k k' b b' (mirror k b) (mirror k' b') t t'
          (λ l l' q q' u u'. s.rows l l' q.within q'.within u u' (q.row ∙ e ∙ sym q'.row));
    }
      where
        same : (k k' : ℕ) → k < g.entries → k' < g.entries → (l : ℕ) × Mirror g k l → (l : ℕ) × Mirror g k' l → T (R k) → T (R k')
            → ((l l' : ℕ) → Mirror g k l → Mirror g k' l' → T (S l) → T (S l') → l ≡ l') → k ≡ k'
        same k k' b b' (l, q) (l', q') t t' f =
            once k k' l b b' q (subst (Mirror g k') (sym (f l l' q q' (subst T (M k l b q) t) (subst T (M k' l' b' q') t'))) q')

    pub mirrored_complete : Complete g S → Complete g R
    unfolding size total
    mirrored_complete s = record { matching = mirrored_matching s.matching; full = mirrored_total (λ k. 1) (λ k. 1) (λ k l b q. refl) ∙ s.full }

    -- where a cost and its mirror's differ as numbers of their rows do, R costs what S costs
    pub mirrored_cost : (c top : ℕ → ℕ) → ((k l : ℕ) → k < g.entries → Mirror g k l → c k + top (g.row k) ≡ c l + top (g.row l)) → Complete g S
        → total g c R ≡ total g c S
    mirrored_cost c top h s =
        let r = mirrored_complete s in
        omega (
          arith,
          mirrored_total (λ k. c k + top (g.row k)) (λ k. c k + top (g.row k)) h,
          total_add g c (λ k. top (g.row k)) R,
          total_add g c (λ k. top (g.row k)) S,
          even ok s r (λ k. top (g.row k)) top (λ j. 0) (λ k b. omega arith),
        )

    -- so potentials that show S to be of least total are tight at the mirrors of its entries
    pub mirror_tight : {c a b : ℕ → ℕ} {m : ℕ} (top : ℕ → ℕ) → ((k l : ℕ) → k < g.entries → Mirror g k l → c k + top (g.row k) ≡ c l + top (g.row l))
        → Complete g S → Potentials g c S a b m → (k : ℕ) → k < g.entries → T (R k) → a (g.row k) + b (g.col k) ≡ c k + m
    mirror_tight {c} top h s pot = tight_throughout ok s pot (mirrored_complete s) (omega (arith, mirrored_cost c top h s))
