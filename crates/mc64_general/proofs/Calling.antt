-- The call: what is built is what it promises, and the tests establish what the building requires.
use mathlib.Core.Path.{◌≡◌}
use mathlib.Core.List.{List}
use Prim.Native.Nat.{ℕ, ◌≤◌}
use native.Mathlib.Omega.{arith}
use lib.Ieee.{Float}
use lib.ListN.{length, replicate}
use Rattle.std.specs.Prelude.{Ok}
use Rattle.limits.specs.Limits.{max_general}
use Rattle.slices.specs.Outcome.{outcome_is}
use Rattle.sparse.specs.Validate.{size_fault, general_fault}
use Rattle.sparse.proofs.First.{or-zero}
use Rattle.sparse.proofs.Accepted.{sizes_accepted, general_accepted}
use Rattle.sparse.specs.Matrix.{Matrix}
use Rattle.mc64_columns.specs.Graphs.{Slices, AnswersBy, kept_before, built, outcome}
use Rattle.mc64_columns.proofs.Calls as Calls
use Rattle.mc64_general.specs.Graph.{kept_columns}
use Rattle.mc64_general.specs.Call.{lengths_fit, input_fault}
use Rattle.mc64_general.specs.inner.Steps.{Accepted, Roomy, BuiltAll}

-- the building and the clearing of the work complete the call
pub accepted : (m : Matrix) (logs : List Float) (s after : Slices) (kept fault : ℕ) → 0 ≡ fault
    → BuiltAll m logs s.graph_idx s.cost after.graph_ptr after.graph_idx after.cost after.cmax kept → after.work ≡ replicate
    (length s.work) 0
    → (outcome_is (Ok kept) after ≡ outcome fault m.pattern.n (kept_columns m) logs s) × AnswersBy fault (kept_before (kept_columns m) m.pattern.n)
    (Ok kept)
unfolding built
accepted m logs s after kept fault e b w =
    Calls.accepted m.pattern.n (kept_columns m) logs s after kept fault e
    (record {
      count = b.count;
      slices = λ i. record { graph_ptr = b.pointers i; graph_idx = b.rows_built i; cost = b.costs i; cmax = b.tops i; work = w i };
    })

-- ---- what an accepted call has
pub ready : (m : Matrix) (logs : List Float) (s : Slices) → input_fault m logs (lengths_fit m logs s) ≡ 0
    → Accepted m logs × Roomy m.pattern.n m.pattern.row_idx s.graph_ptr s.graph_idx s.cost s.cmax
    × (length m.pattern.row_idx ≤ length s.work)
unfolding input_fault
ready m logs s fine =
    let z = or-zero (size_fault m.pattern.n max_general (length m.pattern.row_idx) (lengths_fit m logs s)) _ fine in
    let f = Calls.lengths_fitting (length m.pattern.row_idx) m logs s
    ((sizes_accepted m.pattern.n max_general (length m.pattern.row_idx) _).0 z.0).2 in
    let a = (general_accepted m).0 (or-zero (general_fault m) _ z.1).0 in (
      record { sizes = a.0; pointers = a.1.pointers; logged = f.logged },
      record { pointer_room = f.pointers; row_room = f.row_room; cost_room = f.cost_room; cmax_room = f.cmax_room },
      omega (arith, f.work_room),
    )
