-- The definitions compute and the theorems apply: two graphs with 2 rows and 2 columns, one with all entries, one with no complete matching.
use mathlib.Core.Path.{◌≡◌, refl}
use mathlib.Core.Bool.{Bool, true}
use Prim.Native.Nat.{ℕ, ◌+◌, ◌*◌, ◌/◌, ◌%◌}
use native.Mathlib.Omega.{arith}
use lib.Dec.{eqb, eqb→eq, lit<, lit≤}
use Rattle.matching.specs.Sum.{sum_to, updated}
use Rattle.matching.specs.Matching.{Bipartite, InRange, IsMatching, size, total, Complete, Largest, LeastTotal}
use Rattle.matching.specs.Pairing.{held_entries, matched_count, Paired}
use Rattle.matching.proofs.Matchings.{complete_exactly, least_total}
use Rattle.matching.proofs.Pairings.{empty_pairing, held_largest, held_size}
use Rattle.matching.proofs.Flip.{pair}

-- ---- all entries: entry k is in row k % 2 and column k / 2
abbrev square : Bipartite
square = record { n = 2; entries = 4; row = λ k. k % 2; col = λ k. k / 2 }

square_range : InRange square
square_range = record { rows = λ k b. omega arith; cols = λ k b. omega arith }

-- the entries off the diagonal, 1 and 2
abbrev crossed : ℕ → Bool
crossed k = eqb (k % 2 + k / 2) 1

crossed_complete : Complete square crossed
unfolding size sum_to
crossed_complete = record {
  matching = record {
    rows = λ k l b d s t e. omega (arith, eqb→eq (k % 2 + k / 2) 1 s, eqb→eq (l % 2 + l / 2) 1 t);
    cols = λ k l b d s t e. omega (arith, eqb→eq (k % 2 + k / 2) 1 s, eqb→eq (l % 2 + l / 2) 1 t);
  };
  full = refl;
}

-- with the costs 0, 10, 20, 30 they cost 30, and no complete matching costs less
crossed_total : total square (λ k. 10 * k) crossed ≡ 30
unfolding total sum_to
crossed_total = refl

crossed_least : LeastTotal square (λ k. 10 * k) crossed
crossed_least = least_total {a = λ i. 10 * i} {b = λ j. 20 * j} {m = 0} square_range crossed_complete
    (record { below = λ k b. omega arith; tight = λ k b t. omega arith })

-- all four entries are no matching: entries 0 and 2 share a row
all_entries : IsMatching square (λ k. true) → ⊥
all_entries m = omega (arith, m.rows 0 2 (lit< tt) (lit< tt) tt tt refl)

-- ---- one row with an entry in each column, the other row without: a largest matching has one entry
abbrev star : Bipartite
star = record { n = 2; entries = 2; row = λ k. 0; col = λ k. k }

star_range : InRange star
star_range = record { rows = λ k b. omega arith; cols = λ k b. omega arith }

-- column 0 holds entry 0, and row 0 has column 0
abbrev taken : ℕ → ℕ
taken = updated (λ i. 9) 0 0

star_paired : Paired star 9 taken taken
star_paired = pair star_range (empty_pairing (record { entries = lit≤ tt; indices = lit≤ tt }) (λ i b. refl) (λ j b. refl))
    (record { entry = lit< tt; row = refl; col = refl }) refl refl

star_largest : Largest star (held_entries star taken)
unfolding updated
star_largest = held_largest {Z = λ j. true} star_range star_paired (record { matched = λ k b t. omega arith; inside = λ k b t. tt }) (λ j b f. tt)

star_incomplete : (R : ℕ → Bool) → Complete star R → ⊥
unfolding matched_count sum_to updated
star_incomplete R c =
    let one : size star (held_entries star taken) ≡ 1 = held_size star_range star_paired in
    omega (arith, (complete_exactly star_range star_largest).1 (R, c))
