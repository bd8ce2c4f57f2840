-- A pair occurs twice exactly if the reader's test finds it, by induction on the entries.
use mathlib.Core.Path.{◌≡◌, refl, sym}
use mathlib.Core.Bool.{Bool, true, false, ◌&&◌, ◌||◌, or-true}
use mathlib.Core.Logic.{◌↔◌}
use mathlib.Core.List.{List, [], ◌∷◌, map}
use Prim.Native.Nat.{ℕ, zero, suc, ◌<◌}
use native.Mathlib.Omega.{arith}
use borrow.Author.Tests.{eq-eqb, eqb-true}
use lib.Dec.{eqb}
use lib.ListN.{length}
use Rattle.slices.proofs.Bools.{both}
use Rattle.text_matrix_market.specs.declared.stages.Entry.{Entry}
use Rattle.text_matrix_market.specs.File.{entry_row, entry_column, pair_among, repeats, repeated}
use Rattle.text_tie_file.specs.File.{entry_of, PairTwice}
use Rattle.text_tie_file.proofs.Bytes.{never}

-- the test of two entries, and of an entry and a list
abbrev same_pair : Entry → Entry → Bool
same_pair t s = eqb t.row s.row && eqb t.column s.column

abbrev has_pair : Entry → List Entry → Bool
has_pair s entries = pair_among s.row s.column (map entry_row entries) (map entry_column entries)

-- an entry of a list has this pair
record Has (s : Entry) (entries : List Entry) : Type 0 where
  at : ℕ
  within : at < length entries
  row : (entry_of entries at).row ≡ s.row
  column : (entry_of entries at).column ≡ s.column

same_found : (t s : Entry) → same_pair t s ≡ true → (t.row ≡ s.row) × (t.column ≡ s.column)
same_found t s e = let p = both (eqb t.row s.row) (eqb t.column s.column) e in
    (eqb-true t.row s.row p.0, eqb-true t.column s.column p.1)

same_test : (t s : Entry) → t.row ≡ s.row → t.column ≡ s.column → same_pair t s ≡ true
same_test t s r c = rw (eq-eqb t.row s.row r, eq-eqb t.column s.column c)

has_found : (s : Entry) (entries : List Entry) → has_pair s entries ≡ true → Has s entries
unfolding pair_among
has_found s [] e = never cc
has_found s (t ∷ entries) e = first (same_pair t s) refl e (has_found s entries)
  where
    first : (b : Bool) → same_pair t s ≡ b → (b || has_pair s entries) ≡ true → (has_pair s entries ≡ true → Has s entries) → Has s (t ∷ entries)
    first true h x more = let p = same_found t s h in record { at = 0; within = omega arith; row = p.0; column = p.1 }
    first false h x more = let m = more x in record { at = suc m.at; within = omega (arith, m.within); row = m.row; column = m.column }

has_test : (s : Entry) (entries : List Entry) (k : ℕ) → k < length entries → (entry_of entries k).row ≡ s.row → (entry_of entries k).column ≡ s.column
    → has_pair s entries ≡ true
unfolding pair_among
has_test s [] k h r c = let z : ⊥ = omega arith in absurd z
has_test s (t ∷ entries) zero h r c = rw (same_test t s r c)
has_test s (t ∷ entries) (suc k) h r c = rw (has_test s entries k (omega arith) r c) (or-true (same_pair t s))

twice_found : (entries : List Entry) → repeated entries ≡ true → PairTwice entries
unfolding repeats
twice_found [] e = never cc
twice_found (t ∷ entries) e = first (has_pair t entries) refl e (twice_found entries)
  where
    first : (b : Bool) → has_pair t entries ≡ b → (b || repeated entries) ≡ true → (repeated entries ≡ true → PairTwice entries) → PairTwice (t ∷ entries)
    first true h x more =
        let m = has_found t entries h in
        record { first = 0; second = suc m.at; apart = omega arith; within = omega (arith, m.within); row = sym m.row; column = sym m.column }
    first false h x more =
        let m = more x in
        record {
          first = suc m.first;
          second = suc m.second;
          apart = omega (arith, m.apart);
          within = omega (arith, m.within);
          row =
              m.row;
          column = m.column;
        }

twice_test : (entries : List Entry) (i j : ℕ) → i < j → j < length entries → (entry_of entries i).row ≡ (entry_of entries j).row
    → (entry_of entries i).column ≡ (entry_of entries j).column → repeated entries ≡ true
unfolding repeats
twice_test [] i j a h r c = let z : ⊥ = omega arith in absurd z
twice_test (t ∷ entries) i zero a h r c = let z : ⊥ = omega arith in absurd z
twice_test (t ∷ entries) zero (suc j) a h r c = rw (has_test t entries j (omega arith) (sym r) (sym c))
twice_test (t ∷ entries) (suc i) (suc j) a h r c = rw (twice_test entries i j (omega arith) (omega arith) r c) (or-true (has_pair t entries))

pub twice_exactly : (entries : List Entry) → (repeated entries ≡ true) ↔ PairTwice entries
twice_exactly entries = (twice_found entries, λ p. twice_test entries p.first p.second p.apart p.within p.row p.column)
