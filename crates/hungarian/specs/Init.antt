-- The Rust's hungarian_init_heuristic: phases 1, 2 and 3 of SPECIFICATION 5.4 to 5.6.
-- `iperm` has each row's column and `jperm` each column's entry, none where free; u has the row duals; num counts the
-- pairs.
use Rattle.std.specs.Prelude.{List, Bool, not, cond, ◌&&◌, ◌||◌, ℕ, zero, suc, ◌+◌, ◌-◌, ◌/◌, leb, ltb, eqb, get_or, set, replicate, take, Float}
use Rattle.std.specs.Float.{nan, binary64}
use Rattle.std.specs.Float.Ieee.{sub, lt, le, eq, ne}
use Rattle.limits.specs.Limits.{none}
use Rattle.float64.specs.Constants.{zero as fzero, rinf}
use Rattle.hungarian.specs.declared.HungarianStats.{HungarianStats}
use Rattle.hungarian.specs.Loop.{each, steps}
use Rattle.sparse.specs.Pattern.{row_of, start, end}
use Rattle.hungarian.specs.Graph.{CostGraph, cost_of}
use Rattle.hungarian.specs.Counts.{inner_step}

-- ---- phase 1: u of a row is its smallest cost; of equal ones the last counts. `least` has the entry, iperm its
-- column for phase 2
pub record RowMinima : Type 0 where
  pub u : List Float
  pub iperm : List ℕ
  pub least : List ℕ

unfoldable pub lower : CostGraph → ℕ → ℕ → RowMinima → RowMinima
lower g j k s =
    let i = row_of g.pattern k in
    let c = cost_of g k in
    cond (le c (get_or s.u i nan))
    (record { u = set s.u i c; iperm = set s.iperm i j; least = set s.least i k }) s

unfoldable pub phase1 : CostGraph → RowMinima
unfolding lower steps
phase1 g =
    each 0 g.pattern.n (λ j. each (start g.pattern j) (end g.pattern j) (lower g j))
    (record {
      u = replicate g.pattern.n rinf;
      iperm = replicate g.pattern.n none;
      least = replicate g.pattern.n none;
    })

-- ---- the pairs so far
pub record Pairs : Type 0 where
  pub iperm : List ℕ
  pub jperm : List ℕ
  pub num : ℕ

-- row i and column j are paired by entry k
unfoldable pub pair : ℕ → ℕ → ℕ → Pairs → Pairs
pair i j k s = record { iperm = set s.iperm i j; jperm = set s.jperm j k; num = s.num + 1 }

-- ---- phase 2: rows upward claim that column if it is free and not dense
-- n > 50 and the column is longer than n / 10 rounded down
unfoldable pub dense : CostGraph → ℕ → Bool
dense g j = ltb (g.pattern.n / 10) (end g.pattern j - start g.pattern j) && ltb 50 g.pattern.n

unfoldable pub claim : CostGraph → List ℕ → ℕ → Pairs → Pairs
unfolding dense pair
claim g least i s =
    let j = get_or s.iperm i 0 in
    let freed : Pairs = record { iperm = set s.iperm i none; jperm = s.jperm; num = s.num } in
    cond (eqb j none) s
    (cond (not (eqb (get_or s.jperm j 0) none) || dense g j) freed (pair i j (get_or least i 0) freed))

unfoldable pub phase2 : CostGraph → RowMinima → Pairs
unfolding claim steps
phase2 g s = each 0 g.pattern.n (claim g s.least)
    (record { iperm = s.iperm; jperm = replicate g.pattern.n none; num = 0 })

-- ---- phase 3: free columns that are not empty, upward
-- `least` has the least cost minus u that phase 3 found in a column, at first 0; `from` has the place from which a
-- column is still to be searched for a swap
pub record Improving : Type 0 where
  pub pairs : Pairs
  pub least : List Float
  pub from : List ℕ
  pub stats : HungarianStats

-- the best entry so far of a column: its cost minus u, its row and its place
pub record Best : Type 0 where
  pub value : Float
  pub row : ℕ
  pub place : ℕ

-- cost minus u at entry k
abbrev pub reduced : CostGraph → List Float → ℕ → Float
reduced g u k = sub binary64 (cost_of g k) (get_or u (row_of g.pattern k) nan)

abbrev pub free : List ℕ → ℕ → Bool
free iperm i = eqb (get_or iperm i 0) none

-- the least value; of equal ones the later entry counts only if its row is free and that of the kept one is not
unfoldable pub better : CostGraph → List Float → List ℕ → ℕ → Best → Best
better g u iperm k b =
    let v = reduced g u k in
    let i = row_of g.pattern k in
    let here : Best = record { value = v; row = i; place = k } in
    cond (lt b.value v) b (cond (eq v b.value && ne v rinf && (not (free iperm i) || free iperm b.row)) b here)

unfoldable pub best_of : CostGraph → List Float → List ℕ → ℕ → Best
unfolding better steps
best_of g u iperm j =
    each (start g.pattern j + 1) (end g.pattern j) (better g u iperm)
    (record {
      value = reduced g u (start g.pattern j);
      row = row_of g.pattern (start g.pattern j);
      place = start g.pattern j;
    })

-- the result of seeking a free row for a column: the entry, or none; and the counts
pub record Sought : Type 0 where
  pub entry : ℕ
  pub stats : HungarianStats

-- at most m places of column jj from place kk on: a free row whose value is at most the column's least
unfoldable pub seek : CostGraph → List Float → Improving → HungarianStats → ℕ → ℕ → ℕ → Sought
unfolding inner_step
seek g u s c jj zero kk = record { entry = none; stats = c }
seek g u s c jj (suc m) kk =
    let counted = inner_step c in
    let rest = seek g u s counted jj m (suc kk) in
    cond (free s.pairs.iperm (row_of g.pattern kk) && le (reduced g u kk) (get_or s.least jj nan))
    (record { entry = kk; stats = counted }) rest

-- the entry k of the free column j goes to a row i that column jj has; jj takes the free row of its entry kk instead
unfoldable pub swap : CostGraph → ℕ → ℕ → ℕ → ℕ → Pairs → Pairs
unfolding pair
swap g j k jj kk s =
    let moved = pair (row_of g.pattern kk) jj kk s in
    record { iperm = set moved.iperm (row_of g.pattern k) j; jperm = set moved.jperm j k; num = moved.num }

-- a length-2 swap for the free column j is tried from place k on, at entries whose value is not above v; a swap ends
-- both scans
unfoldable pub attempt : CostGraph → List Float → ℕ → Float → ℕ → ℕ → Improving → Improving
unfolding seek swap
attempt g u j v zero k s = s
attempt g u j v (suc m) k s =
    let jj = get_or s.pairs.iperm (row_of g.pattern k) 0 in
    let sought = seek g u s s.stats jj (end g.pattern jj - get_or s.from jj 0) (get_or s.from jj 0) in
    let swapped : Improving =
    record {
      pairs = swap g j k jj sought.entry s.pairs;
      least = s.least;
      from = set (set s.from jj (sought.entry + 1)) j (k + 1);
      stats = sought.stats;
    } in
    let missed : Improving =
    record {
      pairs = s.pairs;
      least = s.least;
      from = set s.from jj (end g.pattern jj);
      stats = sought.stats;
    } in
    let skip = attempt g u j v m (suc k) s in
    let next = attempt g u j v m (suc k) missed in
    cond (lt v (reduced g u k) || free s.pairs.iperm (row_of g.pattern k)) skip
    (cond (eqb sought.entry none) next swapped)

-- one column: a free row is taken, else a swap is tried
unfoldable pub improve : CostGraph → List Float → ℕ → Improving → Improving
unfolding best_of pair attempt
improve g u j s =
    let b = best_of g u s.pairs.iperm j in
    let valued : Improving =
    record { pairs = s.pairs; least = set s.least j b.value; from = s.from; stats = s.stats } in
    let taken : Improving =
    record {
      pairs = pair b.row j b.place s.pairs;
      least = valued.least;
      from = set s.from j (b.place + 1);
      stats = s.stats;
    } in
    let tried = attempt g u j b.value (end g.pattern j - b.place) b.place valued in
    cond (not (eqb (get_or s.pairs.jperm j 0) none) || leb (end g.pattern j) (start g.pattern j)) s
    (cond (free s.pairs.iperm b.row) taken tried)

unfoldable pub phase3 : CostGraph → List Float → Pairs → HungarianStats → Improving
unfolding improve steps
phase3 g u s c =
    each 0 g.pattern.n (improve g u)
    (record {
      pairs = s;
      least = replicate g.pattern.n fzero;
      from = take g.pattern.n g.pattern.col_ptr;
      stats = c;
    })
