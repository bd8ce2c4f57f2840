-- The best entry of a column: `Choosing` says that the rest of the definition's scan from the code's best so far is the whole, and where that entry is.
use mathlib.Core.Path.{◌≡◌, refl, sym, ◌∙◌}
use mathlib.Core.Bool.{Bool, true, false, not, ◌&&◌, ◌||◌, true≢false, false≢true}
use mathlib.Core.List.{List}
use Prim.Native.Nat.{ℕ, ◌+◌, ◌≤◌, ◌<◌}
use native.Mathlib.Nat.{le_refl}
use native.Mathlib.Omega.{arith}
use lib.Dec.{T, eqb}
use lib.ListN.{get_or}
use lib.Ieee.{Float, binary64, fits, lt, le, eq, ne}
use lib.Ieee.Fits.{sub-fits}
use Rattle.limits.specs.Limits.{none}
use Rattle.float64.specs.Constants.{rinf}
use Rattle.slices.proofs.Bools.{both}
use Rattle.hungarian.specs.Loop.{each}
use Rattle.sparse.specs.Pattern.{row_of, start, end}
use Rattle.hungarian.specs.Graph.{CostGraph}
use Rattle.hungarian.specs.Init.{reduced, better, best_of}
use Rattle.hungarian.specs.inner.Layout.{region, iperm_at}
use Rattle.hungarian_best.specs.declared.Best.{Best}
use Rattle.hungarian_claim.specs.inner.Memory.{Sound}
use Rattle.hungarian_best.specs.inner.Steps.{best_view, BestEntry}
use Rattle.hungarian_best.proofs.Tests.{same}
use Rattle.hungarian_claim.proofs.Words.{each_more, each_none, stop, stop_is, entry_in, word}

-- f: whether the kept row is free; a: whether the kept value is RINF
pub record Choosing (g : CostGraph) (u : List Float) (w : List ℕ) (j k : ℕ) (b : Best) (f a : Bool) : Type 0 where
  pub within : k ≤ stop g j
  pub begun : start g.pattern j < k
  pub above : start g.pattern j ≤ b.place
  pub below : b.place < stop g j
  pub row : b.row < g.pattern.n
  pub free : f ≡ eqb (get_or w b.row 0) none
  pub limit : a ≡ eq b.value rinf
  pub double : T (fits binary64 b.value)
  pub run : each k (end g.pattern j) (better g u (region iperm_at g.pattern.n w)) (best_view b) ≡ best_of g u (region iperm_at g.pattern.n w) j

module _ {g : CostGraph} {j : ℕ} (sound : Sound g) (h : j < g.pattern.n) where
  pub choosing_start : (u : List Float) (w : List ℕ) → start g.pattern j < stop g j
      → Choosing g u w j (start g.pattern j + 1) (record {
        value = reduced g u (start g.pattern j);
        row = row_of g.pattern (start g.pattern j);
        place = start g.pattern j;
      })
      (eqb (get_or w (row_of g.pattern (start g.pattern j)) 0) none)
      (eq (reduced g u (start g.pattern j)) rinf)
  unfolding best_of
  choosing_start u w b =
      record {
        within = omega arith;
        begun = omega arith;
        above = le_refl (start g.pattern j);
        below = b;
        row = (entry_in g j (start g.pattern j) sound h b).1;
        free = refl;
        limit = refl;
        double = sub-fits binary64 _ _;
        run = refl;
      }

  module _ {u : List Float} {w : List ℕ} {k : ℕ} {b : Best} {f a : Bool} (c : Choosing g u w j k b f a) (l : k < stop g j) where
    abbrev iperm : List ℕ
    iperm = region iperm_at g.pattern.n w

    -- the test of equals, as the definition has it
    abbrev stays : Bool
    stays = eq (reduced g u k) b.value && ne (reduced g u k) rinf && (not (eqb (get_or w (row_of g.pattern k) 0) none) || f)

    same_test : (eq (reduced g u k) b.value && ne
        (reduced g u k) rinf && (not (eqb (get_or iperm (row_of g.pattern k) 0) none) || eqb (get_or iperm b.row 0) none)) ≡ stays
    same_test =
        rw (
          word iperm_at g.pattern.n w (row_of g.pattern k) (row_of g.pattern k) (omega arith) (entry_in g j k sound h l).1 0,
          word iperm_at g.pattern.n w b.row b.row (omega arith) c.row 0,
          c.free,
        ) refl

    -- the test that the code makes
    abbrev moves : Bool
    moves = not (le b.value (reduced g u k))
        || (not (lt b.value (reduced g u k)) && (a || (eqb (get_or w (row_of g.pattern k) 0) none && not f)))

    as_defined : moves ≡ (not (lt b.value (reduced g u k)) && not stays)
    as_defined =
        rw c.limit (same b.value (reduced g u k) (eqb (get_or w (row_of g.pattern k) 0) none) f c.double (sub-fits binary64 _ _))

    more : each (k + 1) (end g.pattern j) (better g u iperm) (better g u iperm k (best_view b)) ≡ best_of g u iperm j
    more = sym (each_more (better g u iperm) k (end g.pattern j) (best_view b) (rw (stop_is g j) at l)) ∙ c.run

    kept : better g u iperm k (best_view b) ≡ best_view b → Choosing g u w j (k + 1) b f a
    kept e =
        record {
          within = omega arith;
          begun = omega (arith, c.begun);
          above = c.above;
          below = c.below;
          row = c.row;
          free = c.free;
          limit = c.limit;
          double = c.double;
          run = rw e at more;
        }

    -- an entry that is above, or equal and not to be preferred
    pub choosing_stays : moves ≡ false → Choosing g u w j (k + 1) b f a
    unfolding better
    choosing_stays q = go (lt b.value (reduced g u k)) stays refl refl (sym as_defined ∙ q)
      where
        go : (x y : Bool) → lt b.value (reduced g u k) ≡ x → stays ≡ y → (not x && not y) ≡ false → Choosing g u w j (k + 1) b f a
        go true y t e q = kept (rw t refl)
        go false true t e q = kept (rw (t, same_test, e) refl)
        go false false t e q = absurd (true≢false q)

    pub choosing_moves : moves ≡ true
        → Choosing g u w j (k + 1) (record { value = reduced g u k; row = row_of g.pattern k; place = k }) (eqb (get_or w (row_of g.pattern k) 0) none)
        (eq (reduced g u k) rinf)
    unfolding better
    choosing_moves q =
        let p = both (not (lt b.value (reduced g u k))) (not stays) (sym as_defined ∙ q) in
        let t = opposite (lt b.value (reduced g u k)) p.0 in
        let e = opposite stays p.1 in
        let m : better g u iperm k (best_view b) ≡ record { value = reduced g u k; row = row_of g.pattern k; place = k } = rw (t, same_test, e) refl in
        record {
          within = omega arith;
          begun = omega (arith, c.begun);
          above = omega (arith, c.begun);
          below = l;
          row = (entry_in g j k sound h l).1;
          free = refl;
          limit = refl;
          double = sub-fits binary64 _ _;
          run = rw m at more;
        }
      where
        opposite : (x : Bool) → not x ≡ true → x ≡ false
        opposite true q = absurd (false≢true q)
        opposite false q = refl

  pub choosing_end : {u : List Float} {w : List ℕ} {k : ℕ} {b : Best} {f a : Bool} → Choosing g u w j k b f a → stop g j ≤ k
      → BestEntry g u (region iperm_at g.pattern.n w) j b
  choosing_end {u} {w} {k} {b} c l = record {
    tie = sym (each_none (better g u (region iperm_at g.pattern.n w)) k (end g.pattern j) (best_view b) (rw (stop_is g j) at l)) ∙ c.run;
    above = c.above;
    below = rw (stop_is g j) at c.below;
    row = c.row;
  }
