-- S-7 of the calls, end to end: `general_ends` and `symmetric_ends` for our own matches, `checked_general_ends` and `checked_symmetric_ends` for
-- matches that others made. Each call's outcome, as its contract has it,
-- is a premise; what it says follows from the definition (`none_wrong`, `found`, `made_set`, `applied_exact`). Both kinds share one argument
-- (`ours_end`, `checked_end`), over what `Prepared` says of the graph that is left.
use Rattle.std.proofs.Common.{Result, Err}
use mathlib.Core.Path.{◌≡◌, refl, sym, ap, ap₂, ◌∙◌, subst}
use mathlib.Core.List.{List, [], ◌∷◌, map}
use Prim.Native.Nat.{ℕ, zero, suc, ◌*◌, ◌<◌}
use native.Mathlib.Nat.{lt_of_mul-lt-mul_right}
use native.Mathlib.Omega.{arith}
use borrow.Author.Tests.{eqb-true}
use lib.Dec.{T}
use lib.IntN.{ℤ}
use lib.Ieee.{Float, nan, binary64, fits, up, down, of_bits}
use lib.Ieee.Bits.{of_bits-fits}
use lib.ListN.{length, get_or, length-map}
use Rattle.refusal.specs.Refusal.{accepted}
use Rattle.refusal.specs.Number.{fault_of}
use Rattle.float64.specs.Number.{magnitude}
use Rattle.slices.specs.Outcome.{outcome_is, Outcome, refusing, as_number}
use Rattle.slices.proofs.Lists.{table_at}
use Rattle.sparse.specs.Matrix.{Matrix}
use Rattle.sparse.specs.Pattern.{Pattern}
use Rattle.hungarian.specs.Graph.{CostGraph}
use Rattle.hungarian.specs.Match.{hungarian_match}
use Rattle.hungarian_match.specs.Call as Match
use Rattle.hungarian.specs.declared.Counts.{Counts}
use Rattle.match_check.specs.Check.{Claim, claim, check_fault}
use Rattle.match_check.specs.Call.{Certified}
use Rattle.match_check.proofs.Ours.{ours_certified}
use Rattle.match_check.proofs.Calling.{promises}
use Rattle.mc64_columns.specs.Columns.{value_logs}
use Rattle.mc64_columns.specs.Graphs.{Slices, outcome, GraphColumns, graph_largest, built}
use Rattle.mc64_columns.proofs.Entries.{graph_by}
use Rattle.mc64_columns.proofs.Kept.{map_at}
use Rattle.mc64_symmetric.specs.Graph.{mirrored_columns}
use Rattle.mc64_general.specs.Graph.{kept_columns}
use Rattle.whole_graphs.specs.Graphs.{whole_general_fault, whole_general_graph, whole_symmetric_fault, whole_symmetric_graph, graph_left, WholeGraph}
use Rattle.whole_graphs.proofs.Theorems.{Doubles, left_is, left_built, general_optimal, symmetric_optimal}
use Rattle.exponents_powers.specs.Power.{scaled_bits, Exponents}
use Rattle.exponents_powers.proofs.Exact.{scaled_exactly}
use Rattle.exponents.specs.Call.{duals, make_exponents, set_of}
use Rattle.exponents_apply.specs.Apply.{shift_at, apply_fault, scaled_values, apply_exponents, Exact}
use Rattle.exponents_apply.proofs.Accepted.{lengths_are, accepted_is}
use Rattle.exponents_bounds.specs.Bounds.{entry_magnitude, Within, Bounded, SymmetricBounded, LeftWithin, Scales, ScalesSymmetric}
use Rattle.exponents_bounds.proofs.AnyColumns.{LoggedColumns, EntryAt, EitherAt, Alone, LogPotentials, made_set, ours_accepted}
use Rattle.exponents_bounds.proofs.General.{general_columns_lem, general_set, general_alone, general_logs}
use Rattle.exponents_bounds.proofs.Symmetric.{symmetric_columns_lem, symmetric_set, symmetric_alone, symmetric_logs}
use Rattle.exponents_bounds.proofs.BothTriangles.{general_form}

-- ---- what the outcome of each call says
-- a builder that accepts found nothing wrong
pub none_wrong : (n : ℕ) (g : GraphColumns) (logs : List Float) (s after : Slices) (a : Result ℕ ℕ) (fault : ℕ)
    → outcome_is a after ≡ outcome fault n g logs s → fault_of a ≡ accepted → fault ≡ 0
none_wrong n g logs s after a zero o e = refl
none_wrong n g logs s after a (suc fault) o e = let q : fault_of a ≡ suc fault = ap (λ (x : Outcome (Result ℕ ℕ) Slices). fault_of x.answer) o in
    let z : ⊥ = omega arith in absurd z

-- `hungarian_match` left the match of the graph and matched every column
record Found (g : CostGraph) (left : Match.Slices) : Type 0 where
  perm : left.perm ≡ (hungarian_match g).perm
  u : left.u ≡ (hungarian_match g).u
  v : left.v ≡ (hungarian_match g).v
  full : (hungarian_match g).matched ≡ g.pattern.n

found : (g : CostGraph) (before left : Match.Slices) (answer : Result Counts ℕ) (old : List ℕ) → outcome_is answer left ≡ Match.match_outcome g before
    → fault_of answer ≡ accepted → get_or (Match.counts_left answer old) 0 0 ≡ g.pattern.n → Found g left
unfolding Match.match_outcome Match.finished
found g before left answer old o e count = go (Match.match_fault g before) o
  where
    go : (f : ℕ) → outcome_is answer left ≡ refusing Err f (Match.finished g before) before → Found g left
    go zero q = record {
      perm = ap (λ (x : Outcome (Result Counts ℕ) Match.Slices). x.after.perm) q;
      u = ap (λ (x : Outcome (Result Counts ℕ) Match.Slices). x.after.u) q;
      v = ap (λ (x : Outcome (Result Counts ℕ) Match.Slices). x.after.v) q;
      full = sym (ap (λ (x : Outcome (Result Counts ℕ) Match.Slices). get_or (Match.counts_left x.answer old) 0 0) q) ∙ count;
    }
    go (suc f) q = let w : fault_of answer ≡ suc f = ap (λ (x : Outcome (Result Counts ℕ) Match.Slices). fault_of x.answer) q in let z : ⊥ =
        omega (arith, e, w) in absurd z

-- the match that it left is certified, and so is one that `check_match` accepts
module _ (n : ℕ) (after : Slices) (W : WholeGraph (graph_left n after)) where
  found_certified : (left : Match.Slices) → Found (graph_left n after) left → Certified (graph_left n after) (claim left.perm left.u left.v)
  found_certified left F =
      ours_certified (graph_left n after) (claim left.perm left.u left.v)
      (record { graph = W.matched; costs = W.whole; left = rw (F.perm, F.u, F.v) refl; full = F.full })

  pub left_certified : (before left : Match.Slices) (answer : Result Counts ℕ) (old : List ℕ) → outcome_is answer left ≡ Match.match_outcome (graph_left n after) before
      → fault_of answer ≡ accepted → get_or (Match.counts_left answer old) 0 0 ≡ n → Certified (graph_left n after) (claim left.perm left.u left.v)
  left_certified before left answer old o z count = found_certified left (found (graph_left n after) before left answer old o z count)

  pub checked_certified : (c : Claim) → Doubles c.u → Doubles c.v → (verdict : ℕ) → verdict ≡ check_fault (graph_left n after) c
      → verdict ≡ accepted → Certified (graph_left n after) c
  checked_certified c du dv verdict o z =
      (promises (graph_left n after) c (λ k h. (W.whole k h).1.double)
      (record { rows = double_at_lem c.u du; columns = double_at_lem c.v dv }) o).exactly.0 z
    where
      -- past the end too
      double_at_lem : (l : List Float) → Doubles l → (i : ℕ) → T (fits binary64 (get_or l i nan))
      double_at_lem [] d i = unfold fits in tt
      double_at_lem (x ∷ l) d zero = d 0 (omega arith)
      double_at_lem (x ∷ l) d (suc i) = double_at_lem l (λ k h. d (suc k) (omega arith)) i

-- an accepted `apply_exponents` scaled every place exactly
applied_exact : (m : Pattern) (e : Exponents) (bits values : List ℕ) (number : ℕ) → outcome_is number values ≡ apply_exponents m e bits → number ≡ accepted
    → (length bits ≡ length m.row_idx) × Exact m e bits number values
unfolding apply_exponents scaled_values
applied_exact m e bits values number o z = go (apply_fault m e bits) refl o
  where
    go : (f : ℕ) → apply_fault m e bits ≡ f → outcome_is number values ≡ refusing as_number f (outcome_is 0 (scaled_values m e bits)) bits
        → (length bits ≡ length m.row_idx) × Exact m e bits number values
    go zero fine q =
        let a = accepted_is m e bits fine in (
          eqb-true _ _ (lengths_are m e (length bits) a.lengths).stored,
          λ t k h. rw (ap (λ (x : Outcome ℕ (List ℕ)). get_or x.after k 0) q ∙ table_at (length bits)
              (λ i. scaled_bits (get_or bits i 0) (shift_at m e i)) k h) (scaled_exactly (get_or bits k 0) (shift_at m e k) (a.each k h)),
        )
    go (suc f) fine q = let w : number ≡ suc f = ap (λ (x : Outcome ℕ (List ℕ)). x.answer) q in let y : ⊥ = omega (arith, z, w) in absurd y

-- ---- from the exponents to the values that are left
module _ {m : Matrix} {named : ℕ → Type 0} {e : Exponents} (B : Within m named e) (bits left : List ℕ) (number : ℕ)
    (values : m.values ≡ map (of_bits binary64) bits) (stored : length bits ≡ length m.pattern.row_idx)
    (exact : Exact m.pattern e bits number left) (fine : number ≡ accepted) where
  abbrev after : ℕ → ℕ
  after k = magnitude (of_bits binary64 (get_or left k 0))

  scaled_size_lem : (k : ℕ) → k < length m.pattern.row_idx → let shift = shift_at m.pattern e k in after k * down shift ≡ entry_magnitude m k * up shift
  scaled_size_lem k h =
      let l : k < length bits = omega arith in
      let same : get_or m.values k nan ≡ of_bits binary64 (get_or bits k 0) =
      ap (λ (x : List Float). get_or x k nan) values ∙ map_at (of_bits binary64) bits k nan l in
      (exact fine k l).size ∙ ap (λ (x : Float). magnitude x * up (shift_at m.pattern e k)) (sym same)

  pub left_bounded : LeftWithin m named left
  left_bounded = record {
    below = λ k h. lt_of_mul-lt-mul_right (down (shift_at m.pattern e k)) (omega (arith, scaled_size_lem k h, B.below k h));
    above = λ k K q. lt_of_mul-lt-mul_right (down (shift_at m.pattern e k)) (omega (arith, scaled_size_lem k K.stored, B.above k K q));
  }

-- by the call's outcome
applied_bounded : {m : Matrix} {named : ℕ → Type 0} {e : Exponents} → Within m named e → (bits : List ℕ) → m.values ≡ map (of_bits binary64) bits
    → (number : ℕ) (values : List ℕ) → outcome_is number values ≡ apply_exponents m.pattern e bits → number ≡ accepted → LeftWithin m named values
applied_bounded {m} {named} {e} B bits same number values o z = let a = applied_exact m.pattern e bits values number o z in
    left_bounded B bits values number same a.0 a.1 z

scales : (m : Matrix) (bits : List ℕ) → m.values ≡ map (of_bits binary64) bits → {perm : List ℕ} {e : Exponents} → Bounded m perm e
    → Scales m bits perm e
scales m bits same B = record { bounded = B; left = applied_bounded B.entries bits same }

scales_symmetric : (m : Matrix) (bits : List ℕ) → m.values ≡ map (of_bits binary64) bits → {perm : List ℕ} {e : Exponents}
    → SymmetricBounded m perm e → ScalesSymmetric m bits perm e
scales_symmetric m bits same {perm} {e} B = record {
  bounded = B;
  left = applied_bounded B.entries bits same;
  left_mirrors = applied_bounded B.mirrors bits same;
  general = λ full full_bits alike F. scales full full_bits alike (general_form m full perm e F B);
}

-- ---- the graph that is left, of either kind
-- its costs are whole; a certified match of it that has exponents is `Good`; and our own match has exponents
record Prepared (n : ℕ) (after : Slices) (Good : List ℕ → Exponents → Type 0) : Type 0 where
  whole : WholeGraph (graph_left n after)
  bounded : (c : Claim) → Certified (graph_left n after) c → (rows columns : List ℤ) → let E =
      make_exponents n (duals c.u c.v after.cmax) rows columns in E.answer ≡ accepted → Good c.perm E.after
  fits_ours : let M = hungarian_match (graph_left n after) in M.matched ≡ n → (rows columns : List ℤ) → length rows ≡ n → length columns ≡ n
      → (make_exponents n (duals M.u M.v after.cmax) rows columns).answer ≡ accepted

prepared : (n : ℕ) (g : GraphColumns) (values logs : List Float) (after : Slices) (Good : List ℕ → Exponents → Type 0) → LoggedColumns n g values logs
    → graph_left n after ≡ graph_by n g logs → after.cmax ≡ graph_largest g logs n → WholeGraph (graph_left n after)
    → ((c : Claim) → Certified (graph_by n g logs) c → Good c.perm (set_of (duals c.u c.v (graph_largest g logs n)))) → Prepared n after Good
prepared n g values logs after Good L left tops whole good = record {
  whole = whole;
  bounded = λ c C rows columns e.
      subst (Good c.perm) (sym (made_set n (duals c.u c.v after.cmax) rows columns e ∙ ap (λ (l : List Float). set_of (duals c.u c.v l)) tops))
      (good c (subst (λ (x : CostGraph). Certified x c) left C));
  fits_ours = subst OursFit (sym left) ours_fit;
}
  where
    OursFit : CostGraph → Type 0
    OursFit x = let M = hungarian_match x in M.matched ≡ n → (rows columns : List ℤ) → length rows ≡ n → length columns ≡ n
        → (make_exponents n (duals M.u M.v after.cmax) rows columns).answer ≡ accepted

    W : WholeGraph (graph_by n g logs)
    W = subst WholeGraph left whole

    ours_fit : OursFit (graph_by n g logs)
    ours_fit full rows columns r c =
        let M = hungarian_match (graph_by n g logs) in
        subst (λ (l : List Float). (make_exponents n (duals M.u M.v l) rows columns).answer ≡ accepted) (sym tops)
        (ours_accepted n g values logs L W.matched W.whole full rows columns r c)

-- ---- the match and the exponents
module _ {n : ℕ} {after : Slices} {Good : List ℕ → Exponents → Type 0} (P : Prepared n after Good) where
  -- ours
  ours_end : (before left : Match.Slices) (answer : Result Counts ℕ) (old : List ℕ) → outcome_is answer left ≡ Match.match_outcome (graph_left n after) before
      → fault_of answer ≡ accepted → get_or (Match.counts_left answer old) 0 0 ≡ n
      → (rows columns : List ℤ) → length rows ≡ n → length columns ≡ n
      → (number : ℕ) (e : Exponents) → outcome_is number e ≡ make_exponents n (duals left.u left.v after.cmax) rows columns
      → (number ≡ accepted) × Good left.perm e
  ours_end before left answer old o z count rows columns r c number e q =
      let F = found (graph_left n after) before left answer old o z count in
      let s = claim left.perm left.u left.v in
      let C : Certified (graph_left n after) s = found_certified n after P.whole left F in
      let t : (make_exponents n (duals left.u left.v after.cmax) rows columns).answer ≡ accepted =
      ap₂ (λ (u v : List Float). (make_exponents n (duals u v after.cmax) rows columns).answer) F.u F.v ∙ P.fits_ours F.full rows columns r c in (
        ap (λ (x : Outcome ℕ Exponents). x.answer) q ∙ t,
        subst (λ (x : Outcome ℕ Exponents). Good left.perm x.after) (sym q)
            (P.bounded s C rows columns t),
      )

  -- others'
  checked_end : (c : Claim) → Doubles c.u → Doubles c.v → (verdict : ℕ) → verdict ≡ check_fault (graph_left n after) c
      → verdict ≡ accepted
      → (rows columns : List ℤ) (number : ℕ) (e : Exponents) → outcome_is number e ≡ make_exponents n (duals c.u c.v after.cmax) rows columns
      → number ≡ accepted
      → Good c.perm e
  checked_end c du dv verdict o z rows columns number e q fine =
      let C = checked_certified n after P.whole c du dv verdict o z in
      subst (λ (x : Outcome ℕ Exponents). Good c.perm x.after) (sym q)
      (P.bounded c C rows columns (sym (ap (λ (x : Outcome ℕ Exponents). x.answer) q) ∙ fine))

-- ---- the graph of each kind
-- values by their bits are doubles
bits_double : (values : List Float) (bits : List ℕ) → values ≡ map (of_bits binary64) bits → Doubles values
bits_double values bits same =
    subst Doubles (sym same) (λ k h. rw (map_at (of_bits binary64) bits k nan (rw length-map at h)) (of_bits-fits binary64 (get_or bits k 0)))

largest_left : (n : ℕ) (g : GraphColumns) (logs : List Float) (s after : Slices) → after ≡ built n g logs s → after.cmax ≡ graph_largest g logs n
unfolding built
largest_left n g logs s after e = ap (λ (x : Slices). x.cmax) e

module _ (m : Matrix) (bits : List ℕ) (same : m.values ≡ map (of_bits binary64) bits) (s after : Slices) (a : Result ℕ ℕ) where
  abbrev logs : List Float
  logs = value_logs m.values

  doubles : Doubles m.values
  doubles = bits_double m.values bits same

  general_prepared : outcome_is a after ≡ whole_general_graph m s → fault_of a ≡ accepted → Prepared m.pattern.n after (Scales m bits)
  unfolding whole_general_graph
  general_prepared o z =
      let fine : whole_general_fault m s ≡ 0 = none_wrong m.pattern.n (kept_columns m) logs s after a (whole_general_fault m s) o z in
      let e = left_built m.pattern.n (kept_columns m) logs s after a (whole_general_fault m s) o fine in
      prepared m.pattern.n (kept_columns m) m.values logs after (Scales m bits) (general_columns_lem m s fine doubles) (left_is (kept_columns m) m s after e)
      (largest_left m.pattern.n (kept_columns m) logs s after e) (general_optimal m s fine doubles after e)
      (λ c C. scales m bits same (general_set m s fine doubles c C))

  symmetric_prepared : outcome_is a after ≡ whole_symmetric_graph m s → fault_of a ≡ accepted → Prepared m.pattern.n after (ScalesSymmetric m bits)
  unfolding whole_symmetric_graph
  symmetric_prepared o z =
      let fine : whole_symmetric_fault m s ≡ 0 = none_wrong m.pattern.n (mirrored_columns m) logs s after a (whole_symmetric_fault m s) o z in
      let e = left_built m.pattern.n (mirrored_columns m) logs s after a (whole_symmetric_fault m s) o fine in
      prepared m.pattern.n (mirrored_columns m) m.values logs after (ScalesSymmetric m bits) (symmetric_columns_lem m s fine doubles)
      (left_is (mirrored_columns m) m s after e) (largest_left m.pattern.n (mirrored_columns m) logs s after e) (symmetric_optimal m s fine doubles after e)
      (λ c C. scales_symmetric m bits same (symmetric_set m s fine doubles c C))

  -- ---- what the product needs
  -- no two entries of an accepted matrix are in one place
  pub general_once : outcome_is a after ≡ whole_general_graph m s → fault_of a ≡ accepted → Alone m (EntryAt m)
  unfolding whole_general_graph
  general_once o z = general_alone m s (none_wrong m.pattern.n (kept_columns m) logs s after a (whole_general_fault m s) o z) doubles

  pub symmetric_once : outcome_is a after ≡ whole_symmetric_graph m s → fault_of a ≡ accepted → Alone m (EitherAt m)
  unfolding whole_symmetric_graph
  symmetric_once o z = symmetric_alone m s (none_wrong m.pattern.n (mirrored_columns m) logs s after a (whole_symmetric_fault m s) o z) doubles

  -- the costs of the graph that is left are whole, and a certified match of it has potentials
  pub general_left : outcome_is a after ≡ whole_general_graph m s → fault_of a ≡ accepted
      → WholeGraph (graph_left m.pattern.n after) × ((c : Claim) → Certified (graph_left m.pattern.n after) c → LogPotentials m (EntryAt m) c.perm)
  unfolding whole_general_graph
  general_left o z =
      let fine : whole_general_fault m s ≡ 0 = none_wrong m.pattern.n (kept_columns m) logs s after a (whole_general_fault m s) o z in
      let e = left_built m.pattern.n (kept_columns m) logs s after a (whole_general_fault m s) o fine in
      let W = general_optimal m s fine doubles after e in
      (W, λ c C. general_logs m s fine doubles c (subst (λ (x : CostGraph). Certified x c) (left_is (kept_columns m) m s after e) C))

  pub symmetric_left : outcome_is a after ≡ whole_symmetric_graph m s → fault_of a ≡ accepted
      → WholeGraph (graph_left m.pattern.n after) × ((c : Claim) → Certified (graph_left m.pattern.n after) c → LogPotentials m (EitherAt m) c.perm)
  unfolding whole_symmetric_graph
  symmetric_left o z =
      let fine : whole_symmetric_fault m s ≡ 0 = none_wrong m.pattern.n (mirrored_columns m) logs s after a (whole_symmetric_fault m s) o z in
      let e = left_built m.pattern.n (mirrored_columns m) logs s after a (whole_symmetric_fault m s) o fine in
      let W = symmetric_optimal m s fine doubles after e in
      (W, λ c C. symmetric_logs m s fine doubles c (subst (λ (x : CostGraph). Certified x c) (left_is (mirrored_columns m) m s after e) C))

  -- ---- the theorems
  -- If `whole_general_graph` accepts, and `hungarian_match` accepts the graph left and matches all n columns, then `exponents` accepts what is
  -- left, and brings all entries below 2 and the matched ones above 1/4, also in the values that `apply_exponents` leaves
  pub general_ends : outcome_is a after ≡ whole_general_graph m s → fault_of a ≡ accepted
      → (before left : Match.Slices) (answer : Result Counts ℕ) (old : List ℕ) → outcome_is answer left ≡ Match.match_outcome (graph_left m.pattern.n after) before
      → fault_of answer ≡ accepted → get_or (Match.counts_left answer old) 0 0 ≡ m.pattern.n
      → (rows columns : List ℤ) → length rows ≡ m.pattern.n → length columns ≡ m.pattern.n
      → (number : ℕ) (e : Exponents) → outcome_is number e ≡ make_exponents m.pattern.n (duals left.u left.v after.cmax) rows columns
      → (number ≡ accepted) × Scales m bits left.perm e
  general_ends o z = ours_end (general_prepared o z)

  -- the same for `whole_symmetric_graph`: the entries of the stored triangle and their mirrors, and so the general form
  pub symmetric_ends : outcome_is a after ≡ whole_symmetric_graph m s → fault_of a ≡ accepted
      → (before left : Match.Slices) (answer : Result Counts ℕ) (old : List ℕ) → outcome_is answer left ≡ Match.match_outcome (graph_left m.pattern.n after) before
      → fault_of answer ≡ accepted → get_or (Match.counts_left answer old) 0 0 ≡ m.pattern.n
      → (rows columns : List ℤ) → length rows ≡ m.pattern.n → length columns ≡ m.pattern.n
      → (number : ℕ) (e : Exponents) → outcome_is number e ≡ make_exponents m.pattern.n (duals left.u left.v after.cmax) rows columns
      → (number ≡ accepted) × ScalesSymmetric m bits left.perm e
  symmetric_ends o z = ours_end (symmetric_prepared o z)

  -- the same for a match that `check_match` accepts on such a graph, whoever made it, if `exponents` accepts it; it may refuse it with 43 (Examples.antt)
  pub checked_general_ends : outcome_is a after ≡ whole_general_graph m s → fault_of a ≡ accepted
      → (c : Claim) → Doubles c.u → Doubles c.v → (verdict : ℕ) → verdict ≡ check_fault (graph_left m.pattern.n after) c
      → verdict ≡ accepted
      → (rows columns : List ℤ) (number : ℕ) (e : Exponents) → outcome_is number e ≡ make_exponents m.pattern.n
      (duals c.u c.v after.cmax) rows columns
      → number ≡ accepted
      → Scales m bits c.perm e
  checked_general_ends o z = checked_end (general_prepared o z)

  pub checked_symmetric_ends : outcome_is a after ≡ whole_symmetric_graph m s → fault_of a ≡ accepted
      → (c : Claim) → Doubles c.u → Doubles c.v → (verdict : ℕ) → verdict ≡ check_fault (graph_left m.pattern.n after) c
      → verdict ≡ accepted
      → (rows columns : List ℤ) (number : ℕ) (e : Exponents) → outcome_is number e ≡ make_exponents m.pattern.n
      (duals c.u c.v after.cmax) rows columns
      → number ≡ accepted
      → ScalesSymmetric m bits c.perm e
  checked_symmetric_ends o z = checked_end (symmetric_prepared o z)
