-- A matching is largest if a set of columns proves it, complete exactly when some matching is, and of least total if potentials prove it; for
-- every graph, by counting entries.
use mathlib.Core.Path.{◌≡◌, refl, sym, ap, ◌∙◌}
use mathlib.Core.Logic.{◌↔◌}
use mathlib.Core.Bool.{Bool, true, false, not}
use Prim.Native.Nat.{ℕ, ◌+◌, ◌-◌, ◌*◌, ◌≤◌, ◌<◌}
use native.Mathlib.Nat.{mul-one, zero-mul, one-mul}
use native.Mathlib.Omega.{arith}
use lib.Dec.{T, T_not}
use Rattle.matching.specs.Sum.{sum_to, or_zero}
use Rattle.matching.specs.Matching.{Bipartite, InRange, IsMatching, size, total, Complete, Largest, LeastTotal}
use Rattle.matching.proofs.Sums.{or_zero_pos, or_zero_le, or_zero_same, or_zero_add, sum_le, sum_same, sum_add, sum_times, sum_const, sum_under}
use Rattle.matching.proofs.Sums.{Sent, counting, counting_by, count_le}

-- ---- sets with the same entries

module _ (g : Bipartite) {S R : ℕ → Bool} (same : (k : ℕ) → k < g.entries → S k ≡ R k) where
  pub same_total : (c : ℕ → ℕ) → total g c S ≡ total g c R
  unfolding total
  same_total c = sum_same g.entries (λ k. or_zero (S k) (c k)) (λ k. or_zero (R k) (c k)) (λ k b. ap (λ (s : Bool). or_zero s (c k)) (same k b))

  pub same_size : size g S ≡ size g R
  unfolding size total
  same_size = same_total (λ k. 1)

  pub same_matching : IsMatching g S → IsMatching g R
  same_matching m = record {
    rows = λ k l b d s t. m.rows k l b d (rw (same k b) s) (rw (same l d) t);
    cols = λ k l b d s t. m.cols k l b d (rw (same k b) s) (rw (same l d) t);
  }

  pub same_largest : Largest g S → Largest g R
  same_largest h = record { matching = same_matching h.matching; most = λ Q q. rw (← same_size) (h.most Q q) }

-- ---- largest

-- Z, a set of columns, shows that S is largest: every column outside Z has an entry of S, and the row of every entry of a column in Z has an entry of
-- S in a column of Z
pub record Closed (g : Bipartite) (S Z : ℕ → Bool) : Type 0 where
  pub outside : (j : ℕ) → j < g.n → T (not (Z j)) → (l : ℕ) × (l < g.entries) × T (S l) × (g.col l ≡ j)
  pub inside : (k : ℕ) → k < g.entries → T (Z (g.col k)) → (l : ℕ) × (l < g.entries) × T (S l) × (g.row l ≡ g.row k) × T (Z (g.col l))

-- a rival's entry k is sent to the entry l of S in its row if its column is in Z, else to the one in its column
data To (g : Bipartite) (R Z : ℕ → Bool) (k l : ℕ) : Type 0 where
  by_row : T (R k) → g.row l ≡ g.row k → T (Z (g.col l)) → To g R Z k l
  by_col : T (R k) → g.col l ≡ g.col k → T (not (Z (g.col l))) → To g R Z k l

once : {g : Bipartite} {R Z : ℕ → Bool} → IsMatching g R → (k k' l : ℕ) → k < g.entries → k' < g.entries → To g R Z k l → To g R Z k' l → k ≡ k'
once {g} {R} {Z} m k k' l b d (by_row r e z) (by_row r' e' z') = m.rows k k' b d r r' (sym e ∙ e')
once {g} {R} {Z} m k k' l b d (by_row r e z) (by_col r' e' z') = absurd (T_not (Z (g.col l)) z' z)
once {g} {R} {Z} m k k' l b d (by_col r e z) (by_row r' e' z') = absurd (T_not (Z (g.col l)) z z')
once {g} {R} {Z} m k k' l b d (by_col r e z) (by_col r' e' z') = m.cols k k' b d r r' (sym e ∙ e')

-- no matching has more entries than S
most : {g : Bipartite} {S R Z : ℕ → Bool} → InRange g → Closed g S Z → IsMatching g R → size g R ≤ size g S
unfolding size
most {g} {S} {R} {Z} ok closed m = counting g.entries g.entries (λ k. or_zero (R k) 1) (λ l. or_zero (S l) 1) (To g R Z)
    (λ k b p. send k b (or_zero_pos (R k) 1 p) (Z (g.col k)) refl) (once m)
  where
    send : (k : ℕ) → k < g.entries → T (R k) → (z : Bool) → Z (g.col k) ≡ z → Sent g.entries (λ k. or_zero (R k) 1) (λ l. or_zero (S l) 1) (To g R Z) k
    send k b r true e =
        let (l, c, s, same, z) = closed.inside k b (rw e tt) in
        record { place = l; range = c; sent = by_row r same z; enough = or_zero_le (R k) (S l) 1 1 (λ t. s) (λ t. omega arith) }
    send k b r false e =
        let (l, c, s, same) = closed.outside (g.col k) (ok.cols k b) (rw e tt) in
        record { place = l; range = c; sent = by_col r same (rw (same, e) tt); enough = or_zero_le (R k) (S l) 1 1 (λ t. s) (λ t. omega arith) }

pub largest : {g : Bipartite} {S Z : ℕ → Bool} → InRange g → IsMatching g S → Closed g S Z → Largest g S
largest ok m closed = record { matching = m; most = λ R r. most ok closed r }

-- ---- complete

pub size_bound : {g : Bipartite} {R : ℕ → Bool} → InRange g → IsMatching g R → size g R ≤ g.n
unfolding size
size_bound {g} {R} ok m =
    omega (arith, mul-one g.n, sum_const g.n 1, count_le g.entries g.n R (λ j. true) g.col (λ k b t. (ok.cols k b, tt)) m.cols)

-- a largest matching is complete exactly when some matching is
pub complete_exactly : {g : Bipartite} {S : ℕ → Bool} → InRange g → Largest g S → (size g S ≡ g.n) ↔ ((R : ℕ → Bool) × Complete g R)
complete_exactly {g} {S} ok h = (
  λ e. (S, record { matching = h.matching; full = e }),
  λ c. omega (arith, c.1.full, h.most c.0 c.1.matching, size_bound ok h.matching),
)

-- ---- least total

-- Potentials a of the rows and b of the columns, both with an offset (m is the sum of the two): they bound each cost from below, and the costs of S exactly.
pub record Potentials (g : Bipartite) (c : ℕ → ℕ) (S : ℕ → Bool) (a b : ℕ → ℕ) (m : ℕ) : Type 0 where
  pub below : (k : ℕ) → k < g.entries → a (g.row k) + b (g.col k) ≤ c k + m
  pub tight : (k : ℕ) → k < g.entries → T (S k) → a (g.row k) + b (g.col k) ≡ c k + m

-- a constant over n entries
over_const : (entries n : ℕ) (R : ℕ → Bool) → sum_to entries (λ k. or_zero (R k) 1) ≡ n → (a : ℕ) → sum_to entries (λ k. or_zero (R k) a) ≡ n * a
over_const entries n R full a = sum_same entries (λ k. or_zero (R k) a) (λ k. or_zero (R k) 1 * a) (λ k b. times (R k))
    ∙ sum_times entries (λ k. or_zero (R k) 1) a ∙ ap (λ (x : ℕ). x * a) full
  where
    times : (r : Bool) → or_zero r a ≡ or_zero r 1 * a
    times true = sym (one-mul a)
    times false = sym (zero-mul a)

-- f sends the entries of R to different indices, as many as there are: a sum over the entries is the sum over all indices
module _ (entries n : ℕ) (R : ℕ → Bool) (f : ℕ → ℕ) (range : (k : ℕ) → k < entries → f k < n)
    (apart : (k l : ℕ) → k < entries → l < entries → T (R k) → T (R l) → f k ≡ f l → k ≡ l)
    (full : sum_to entries (λ k. or_zero (R k) 1) ≡ n) where
  over_le : (a : ℕ → ℕ) → sum_to entries (λ k. or_zero (R k) (a (f k))) ≤ sum_to n a
  over_le a = counting_by entries n (λ k. or_zero (R k) (a (f k))) a f (λ k b p. range k b)
      (λ k b p. or_zero_le (R k) true (a (f k)) (a (f k)) (λ t. tt) (λ t. omega arith))
      (λ k l b d p q. apart k l b d (or_zero_pos (R k) (a (f k)) p) (or_zero_pos (R l) (a (f l)) q))

  over : (a : ℕ → ℕ) → sum_to entries (λ k. or_zero (R k) (a (f k))) ≡ sum_to n a
  over a =
      let B : ℕ = sum_to n a in
      let rest : ℕ → ℕ = λ i. B - a i in
      let whole : (b : Bool) (i : ℕ) → i < n → or_zero b (a i) + or_zero b (rest i) ≡ or_zero b B =
      λ b i h. sym (or_zero_add b (a i) (rest i)) ∙ ap (or_zero b) (omega (arith, sum_under n a i h)) in
      omega (
        arith,
        over_le a,
        over_le rest,
        over_const entries n R full B,
        sum_const n B,
        sum_add n a rest,
        sum_same n (λ i. a i + rest i) (λ i. B) (λ i b. whole true i b),
        sum_add entries (λ k. or_zero (R k) (a (f k))) (λ k. or_zero (R k) (rest (f k))),
        sum_same entries (λ k. or_zero (R k) (a (f k)) + or_zero (R k) (rest (f k))) (λ k. or_zero (R k) B) (λ k b. whole (R k) (f k) (range k b)),
      )

module _ {g : Bipartite} {X : ℕ → Bool} (full : Complete g X) where
  -- the potentials of the entries of a complete matching are all potentials
  all_potentials : InRange g → (a b : ℕ → ℕ) → sum_to g.entries (λ k. or_zero (X k) (a (g.row k) + b (g.col k))) ≡ sum_to g.n a + sum_to g.n b
  unfolding size
  all_potentials ok a b =
      omega (
        arith,
        over g.entries g.n X g.row ok.rows full.matching.rows full.full a,
        over g.entries g.n X g.col ok.cols full.matching.cols full.full b,
        sum_same g.entries (λ k. or_zero (X k) (a (g.row k) + b (g.col k))) (λ k. or_zero (X k) (a (g.row k)) + or_zero (X k) (b (g.col k)))
            (λ k h. or_zero_add (X k) (a (g.row k)) (b (g.col k))),
        sum_add g.entries (λ k. or_zero (X k) (a (g.row k))) (λ k. or_zero (X k) (b (g.col k))),
      )

  -- its costs, each with the offset
  all_costs : (c : ℕ → ℕ) (m : ℕ) → sum_to g.entries (λ k. or_zero (X k) (c k + m)) ≡ total g c X + g.n * m
  unfolding size total
  all_costs c m =
      omega (
        arith,
        over_const g.entries g.n X full.full m,
        sum_add g.entries (λ k. or_zero (X k) (c k)) (λ k. or_zero (X k) m),
        sum_same g.entries (λ k. or_zero (X k) (c k + m)) (λ k. or_zero (X k) (c k) + or_zero (X k) m) (λ k h. or_zero_add (X k) (c k) m),
      )

-- no complete matching costs less than S
pub least_total : {g : Bipartite} {c : ℕ → ℕ} {S : ℕ → Bool} {a b : ℕ → ℕ} {m : ℕ} → InRange g → Complete g S → Potentials g c S a b m → LeastTotal g c S
least_total {g} {c} {S} {a} {b} {m} ok s pot = record { complete = s; least = least }
  where
    reduced : (X : ℕ → Bool) → ℕ
    reduced X = sum_to g.entries (λ k. or_zero (X k) (a (g.row k) + b (g.col k)))

    raised : (X : ℕ → Bool) → ℕ
    raised X = sum_to g.entries (λ k. or_zero (X k) (c k + m))

    held : reduced S ≡ raised S
    held = sum_same g.entries (λ k. or_zero (S k) (a (g.row k) + b (g.col k))) (λ k. or_zero (S k) (c k + m)) (λ k h. or_zero_same (S k) (pot.tight k h))

    theirs : (R : ℕ → Bool) → reduced R ≤ raised R
    theirs R = sum_le g.entries (λ k. or_zero (R k) (a (g.row k) + b (g.col k))) (λ k. or_zero (R k) (c k + m))
        (λ k h. or_zero_le (R k) (R k) (a (g.row k) + b (g.col k)) (c k + m) (λ t. t) (λ t. pot.below k h))

    least : (R : ℕ → Bool) → Complete g R → total g c S ≤ total g c R
    least R r = omega (arith, all_potentials s ok a b, all_potentials r ok a b, all_costs s c m, all_costs r c m, held, theirs R)
