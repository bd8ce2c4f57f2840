-- The call: the tests establish what the building requires.
use mathlib.Core.Path.{◌≡◌}
use mathlib.Core.List.{List}
use Prim.Native.Nat.{◌+◌, ◌*◌}
use native.Mathlib.Omega.{arith}
use lib.Ieee.{Float}
use lib.ListN.{length}
use Rattle.limits.specs.Limits.{max_symmetric}
use Rattle.sparse.specs.Validate.{size_fault, symmetric_fault}
use Rattle.sparse.proofs.First.{or-zero}
use Rattle.sparse.proofs.Accepted.{sizes_accepted, symmetric_accepted}
use Rattle.sparse.specs.Matrix.{Matrix}
use Rattle.mc64_columns.specs.Graphs.{Slices}
use Rattle.mc64_columns.proofs.Calls.{Fitting, lengths_fitting}
use Rattle.mc64_symmetric.specs.Call.{lengths_fit, input_fault}
use Rattle.mc64_symmetric.specs.inner.Steps.{Triangle, Roomy}

pub triangle_of : (m : Matrix) → symmetric_fault m ≡ 0 → Triangle m
triangle_of m e =
    let a = (symmetric_accepted m).0 e in
    record {
      few = a.0.columns;
      entries = a.0.entries;
      colptrs = a.0.colptrs;
      stored = a.0.stored;
      columns = a.1.0;
      lower = a.1.1;
    }

module _ (m : Matrix) (logs : List Float) (s : Slices) (fine : input_fault m logs (lengths_fit m logs s) ≡ 0) where
  tests : (size_fault m.pattern.n max_symmetric (length m.pattern.row_idx) (lengths_fit m logs s) ≡ 0) × (symmetric_fault m ≡ 0)
  unfolding input_fault
  tests =
      let z = or-zero (size_fault m.pattern.n max_symmetric (length m.pattern.row_idx) (lengths_fit m logs s)) _ fine in
      (z.0, (or-zero (symmetric_fault m) _ z.1).0)

  fitting : Fitting (2 * length m.pattern.row_idx) m logs s
  fitting = lengths_fitting (2 * length m.pattern.row_idx) m logs s
      ((sizes_accepted m.pattern.n max_symmetric (length m.pattern.row_idx) _).0 tests.0).2

  pub ready : Triangle m
      × (((length m.pattern.col_ptr ≡ m.pattern.n + 1) × (length logs ≡ length m.pattern.row_idx))
      × (((length s.graph_ptr ≡ m.pattern.n + 1) × (length s.cmax ≡ m.pattern.n)) × Roomy m.pattern.col_ptr m.pattern.row_idx s.graph_idx
      s.cost s.work))
  ready = (
    triangle_of m tests.1,
    (
      (fitting.colptrs, fitting.logged),
      (
        (fitting.pointers, fitting.cmax_room),
        record { row_room = fitting.row_room; cost_room = fitting.cost_room; work_room = omega (arith, fitting.work_room, fitting.colptrs) },
      ),
    ),
  )
