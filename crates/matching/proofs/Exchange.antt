-- For any graph: if duals exceed the costs by at most e in each column, and lack at most l on the entries of a complete matching, its total is at
-- most that of any other complete matching plus the sums of both. Duals add up to the same over both.
use mathlib.Core.Path.{refl}
use mathlib.Core.Bool.{Bool}
use Prim.Native.Nat.{ℕ, ◌+◌, ◌≤◌, ◌<◌}
use native.Mathlib.Omega.{arith}
use lib.Dec.{T}
use Rattle.matching.specs.Sum.{sum_to, or_zero}
use Rattle.matching.specs.Matching.{Bipartite, InRange, IsMatching, total, Complete}
use Rattle.matching.proofs.Sums.{or_zero_pos, or_zero_true, or_zero_le, sum_le, counting_by}
use Rattle.matching.proofs.Mirror.{total_add, even}

-- a number of each column, summed over a matching, is at most its sum over all columns
pub by_columns : {g : Bipartite} {S : ℕ → Bool} → InRange g → IsMatching g S → (w : ℕ → ℕ) → total g (λ k. w (g.col k)) S ≤ sum_to g.n w
unfolding total
by_columns {g} {S} ok s w =
    counting_by g.entries g.n (λ k. or_zero (S k) (w (g.col k))) w g.col (λ k b p. ok.cols k b)
    (λ k b p. omega (arith, or_zero_true (S k) (w (g.col k)) (or_zero_pos (S k) (w (g.col k)) p)))
    (λ k l b d p q. s.cols k l b d (or_zero_pos (S k) (w (g.col k)) p) (or_zero_pos (S l) (w (g.col l)) q))

total_le : (g : Bipartite) (X : ℕ → Bool) (f h : ℕ → ℕ) → ((k : ℕ) → k < g.entries → T (X k) → f k ≤ h k) → total g f X ≤ total g h X
unfolding total
total_le g X f h q = sum_le g.entries (λ k. or_zero (X k) (f k)) (λ k. or_zero (X k) (h k)) (λ k b. or_zero_le (X k) (X k) (f k) (h k) (λ u. u) (q k b))

module _ {g : Bipartite} (ok : InRange g) {S R : ℕ → Bool} (s : Complete g S) (r : Complete g R) where
  -- a and b are duals of rows and columns, moved up by m together
  pub exchange : (c e l a b : ℕ → ℕ) (m : ℕ)
      → ((k : ℕ) → k < g.entries → a (g.row k) + b (g.col k) ≤ c k + (e (g.col k) + m))
      → ((k : ℕ) → k < g.entries → T (S k) → c k + m ≤ l (g.col k) + (a (g.row k) + b (g.col k)))
      → total g c S ≤ total g c R + (sum_to g.n e + sum_to g.n l)
  exchange c e l a b m below above =
      omega (
        arith,
        total_le g R (λ k. a (g.row k) + b (g.col k)) (λ k. c k + (e (g.col k) + m)) (λ k h t. below k h),
        total_le g S (λ k. c k + m) (λ k. l (g.col k) + (a (g.row k) + b (g.col k))) above,
        total_add g c (λ k. e (g.col k) + m) R,
        total_add g (λ k. e (g.col k)) (λ k. m) R,
        total_add g c (λ k. m) S,
        total_add g (λ k. l (g.col k)) (λ k. a (g.row k) + b (g.col k)) S,
        even ok s r (λ k. a (g.row k) + b (g.col k)) a b (λ k h. refl),
        even ok s r (λ k. m) (λ i. m) (λ j. 0) (λ k h. omega arith),
        by_columns ok s.matching l,
        by_columns ok r.matching e,
      )
