-- SPECIFICATION 6.3: What every cost graph of a matrix has in common: what is lent for it, the graph of columns that
-- follow one another, and what a builder answers and leaves.
use Rattle.std.specs.Prelude.{◌≡◌, Bool, ◌&&◌, List, [], ◌∷◌, ◌++◌, map, ℕ, zero, suc, ◌+◌, ◌*◌, eqb, Float, length, get_or, drop, replicate, Result, Ok, Err}
use Rattle.std.specs.Float.{nan}
use Rattle.refusal.specs.Refusal.{accepted}
use Rattle.refusal.specs.Number.{fault_of}
use Rattle.slices.specs.Outcome.{Outcome, outcome_is, refusing}
use Rattle.sparse.specs.Matrix.{Matrix}
use Rattle.mc64_columns.specs.Columns.{normalised}

-- what is lent for the graph, and the work
pub record Slices : Type 0 where
  pub graph_ptr : List ℕ
  pub graph_idx : List ℕ
  pub cost : List Float
  pub cmax : List Float
  pub work : List ℕ

abbrev pub slices : List ℕ → List ℕ → List Float → List Float → List ℕ → Slices
slices graph_ptr graph_idx cost cmax work =
    record { graph_ptr = graph_ptr; graph_idx = graph_idx; cost = cost; cmax = cmax; work = work }

-- 3: whether every slice has its length for n columns, with room for this many entries of the graph
unfoldable pub slices_fit : ℕ → Matrix → List Float → Slices → Bool
slices_fit room m logs s =
    let p = m.pattern in
    eqb (length p.col_ptr) (p.n + 1)
    && (eqb (length m.values) (length p.row_idx)
    && (eqb (length logs) (length p.row_idx)
    && (eqb (length s.graph_ptr) (p.n + 1)
    && (eqb (length s.graph_idx) room
    && (eqb (length s.cost) room
    && (eqb (length s.cmax) p.n && eqb (length s.work) (2 * p.n + 2 + length p.row_idx)))))))

-- ---- answers
-- how many entries the graph of an answer has
abbrev pub kept_of : Result ℕ ℕ → ℕ
kept_of (Ok count) = count
kept_of (Err number) = 0

-- an answer by its fault: the number is the fault; without one, the kept count is answered
pub record AnswersBy (fault kept : ℕ) (answer : Result ℕ ℕ) : Type 0 where
  pub number : fault_of answer ≡ fault
  pub count : fault_of answer ≡ accepted → kept_of answer ≡ kept

-- ---- columns
-- what f gives for the columns before c, one after the other
unfoldable pub joined : {A : Type 0} → (ℕ → List A) → ℕ → List A
joined f zero = []
joined f (suc c) = joined f c ++ f c

-- how many entries the columns before c have
abbrev pub entries_before : (ℕ → List ℕ) → ℕ → ℕ
entries_before rows c = length (joined rows c)

-- the pointers of n columns
abbrev pub pointers_of : (ℕ → List ℕ) → ℕ → List ℕ
pointers_of rows n = joined (λ c. entries_before rows c ∷ []) (suc n)

-- their costs
abbrev pub costs_of : (ℕ → List Float) → ℕ → List Float
costs_of logs n = joined (λ c. normalised (logs c)) n

-- ---- the graph of a matrix
-- which stored places each column of the graph has, the row of a place there, and the largest log of a column
pub record GraphColumns : Type 0 where
  pub places : ℕ → List ℕ
  pub row : ℕ → ℕ → ℕ
  pub top : List Float → Float

-- the logs at these places
abbrev pub logs_at : List Float → List ℕ → List Float
logs_at logs places = map (λ k. get_or logs k nan) places

-- the rows and the logs of column c
abbrev pub rows_of : GraphColumns → ℕ → List ℕ
rows_of g c = map (g.row c) (g.places c)

abbrev pub logs_of : GraphColumns → List Float → ℕ → List Float
logs_of g logs c = logs_at logs (g.places c)

-- how many entries the columns before c have
abbrev pub kept_before : GraphColumns → ℕ → ℕ
kept_before g c = entries_before (rows_of g) c

-- the graph of n columns
abbrev pub graph_pointers : GraphColumns → ℕ → List ℕ
graph_pointers g n = pointers_of (rows_of g) n

abbrev pub graph_rows : GraphColumns → ℕ → List ℕ
graph_rows g n = joined (rows_of g) n

abbrev pub graph_costs : GraphColumns → List Float → ℕ → List Float
graph_costs g logs n = costs_of (logs_of g logs) n

-- the largest log of each column
abbrev pub graph_largest : GraphColumns → List Float → ℕ → List Float
graph_largest g logs n = joined (λ c. g.top (logs_of g logs c) ∷ []) n

-- ---- what a builder leaves
-- places past the last entry hold what they held; the work is zero
unfoldable pub built : ℕ → GraphColumns → List Float → Slices → Slices
built n g logs s =
    record {
      graph_ptr = graph_pointers g n;
      graph_idx = graph_rows g n ++ drop (kept_before g n) s.graph_idx;
      cost = graph_costs g logs n ++ drop (kept_before g n) s.cost;
      cmax = graph_largest g logs n;
      work = replicate (length s.work) 0;
    }

-- by the fault: the kept count and the graph, or the refusal
abbrev pub outcome : ℕ → ℕ → GraphColumns → List Float → Slices → Outcome (Result ℕ ℕ) Slices
outcome fault n g logs s = refusing Err fault (outcome_is (Ok (kept_before g n)) (built n g logs s)) s
