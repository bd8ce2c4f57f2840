-- The start and the end: the marks of the matched indices from those of the rows, no sums yet, and the factors of the last sums.
use mathlib.Core.Path.{◌≡◌, refl, sym, ap, ap₂, ◌∙◌, subst}
use mathlib.Core.Bool.{Bool, true, false, not, cond, ◌&&◌, true≢false}
use mathlib.Core.List.{List, [], ◌∷◌, ◌++◌}
use Prim.Native.Nat.{ℕ, zero, suc, ◌+◌, ◌<◌}
use native.Mathlib.Nat.{not-suc-le-zero}
use native.Mathlib.Decide.{ℕ_discrete}
use native.Mathlib.Omega.{arith}
use lib.Dec.{eqb}
use lib.Ieee.{Float, nan}
use lib.Ieee.Scale.{finite}
use lib.ListN.{length, get_or, set, replicate, length-set}
use lib.Seq.{get_or-set_same, get_or-set_other}
use mir.Val.{bool_byte}
use Rattle.limits.specs.Limits.{none}
use Rattle.float64.specs.Constants as Constants
use Rattle.float64.specs.Functions.{clamp_log}
use Rattle.slices.specs.inner.Steps.{Front}
use Rattle.slices.proofs.Fronts.{front_reads, front_next}
use Rattle.sparse.specs.Matrix.{Matrix}
use Rattle.matching.specs.Match.{Match}
use Rattle.mc64_symmetric.specs.Graph.{places_to}
use Rattle.factors_mc64.specs.Factors.{doubles_of, is_matched_row, matched_both, argument, log_factor, factor_at, symmetric_factors}
use Rattle.factors_mc64.specs.Calls.{Slices, slices}
use Rattle.factors_mc64.specs.inner.Steps.{bit, Marked}
use Rattle.factors_flat.specs.Flat.{Input, input, columns, matched_by, is_matched, sums_over, flattened, kept_or_flat, flat_factor_at, flat_factors}
use Rattle.factors_flat.specs.inner.Steps.{mark, held, Levelled, no_sums, MarkedTo, sums_to, Enters, turned, turned_all}
use Rattle.factors_mc64.proofs.Exact.{doubles_length, doubles_at}
use Rattle.factors_flat.proofs.Sums.{levelled_same}

pub doubles_same : (f h : ℕ → Float) (n : ℕ) → ((i : ℕ) → i < n → f i ≡ h i) → doubles_of f n ≡ doubles_of h n
unfolding doubles_of
doubles_same f h zero e = refl
doubles_same f h (suc n) e = ap₂ (λ (l : List Float) (x : Float). l ++ (x ∷ [])) (doubles_same f h n (λ i l. e i (omega arith))) (e n (omega arith))

-- ---- marks
pub marked_start : (n : ℕ) (perm : List ℕ) (cmax : List Float) (work : List ℕ) → Marked n perm n work → MarkedTo n perm cmax 0 work
marked_start n perm cmax work m = record { words = m.words; done = λ i h l. absurd (not-suc-le-zero h); left = λ i h l. m.marks i l }

bit_tells : (b : Bool) → eqb (bit b) 1 ≡ b
bit_tells true = refl
bit_tells false = refl

module _ (n : ℕ) (perm : List ℕ) (cmax : List Float) (k : ℕ) (work : List ℕ) (m : MarkedTo n perm cmax k work) (h : k < n) where
  -- the test of an index
  pub tested : (finite (get_or cmax k nan) && (not (eqb (get_or perm k 0) none) && eqb (get_or work k 0) 1)) ≡ matched_by n perm cmax k
  unfolding matched_by
  tested =
      ap (λ (b : Bool). finite (get_or cmax k nan) && (not (eqb (get_or perm k 0) none) && b))
      (ap (λ (w : ℕ). eqb w 1) (m.left k (omega arith) h) ∙ bit_tells (is_matched_row perm k n))

  pub marked_next : {x : ℕ} → x ≡ bit (matched_by n perm cmax k) → MarkedTo n perm cmax (k + 1) (set work k x)
  marked_next {x} e =
      record {
        words = simp length-set m.words;
        done = λ i a b. go i a b (ℕ_discrete i k);
        left = λ i a b. get_or-set_other work k i x 0 (λ q. omega arith) ∙ m.left i (omega arith) b;
      }
    where
      go : (i : ℕ) → i < k + 1 → i < n → Dec (i ≡ k) → get_or (set work k x) i 0 ≡ bit (matched_by n perm cmax i)
      go i a b (yes q) = rw q (get_or-set_same work k x 0 (omega (arith, m.words)) ∙ e)
      go i a b (no q) = get_or-set_other work k i x 0 q ∙ m.done i (omega arith) b

pub marked_last : {n : ℕ} {perm : List ℕ} {cmax : List Float} {k : ℕ} {work : List ℕ} → k ≡ n → MarkedTo n perm cmax k work → MarkedTo n perm cmax n work
marked_last {n} {perm} {cmax} {k} {work} e m = subst (λ (i : ℕ). MarkedTo n perm cmax i work) e m

-- ---- no sums yet
-- an unmatched index has the factor 0
pub unmatched_zero : (n : ℕ) (c : Match Float) (i : ℕ) → is_matched n c i ≡ false → factor_at n c i ≡ Constants.zero
unfolding matched_by log_factor
unmatched_zero n c i e =
    let a = argument (get_or c.u i nan) (get_or c.v i nan) (get_or c.cmax i nan) in
    go (finite (get_or c.cmax i nan)) (matched_both n c.perm i) (finite a) (clamp_log a) e
  where
    go : (a b : Bool) (t : Bool) (x : Float) → (a && b) ≡ false → cond (a && (b && t)) x Constants.zero ≡ Constants.zero
    go true true t x e = absurd (true≢false e)
    go true false t x e = refl
    go false b t x e = refl

pub levelled_start : (n : ℕ) (c : Match Float) (factors : List Float) (work : List ℕ) → factors ≡ symmetric_factors n c → MarkedTo n c.perm c.cmax n work
    → Levelled n c no_sums (slices factors work)
levelled_start n c factors work f m =
    record {
      room = ap length f ∙ doubles_length (factor_at n c) n;
      words = m.words;
      factors_at = λ i l. ap (λ (x : List Float). get_or x i nan) f ∙ doubles_at (factor_at n c) n i l ∙ start i (is_matched n c i) refl;
      marks_at = λ i l. m.done i l l ∙ marks (is_matched n c i);
    }
  where
    start : (i : ℕ) (b : Bool) → is_matched n c i ≡ b → factor_at n c i ≡ held b (factor_at n c i) []
    start i true e = refl
    start i false e = unmatched_zero n c i e

    marks : (b : Bool) → bit b ≡ mark b []
    marks true = refl
    marks false = refl

-- ---- the factors of the last sums
turned_held : (b : Bool) (f : Float) (l : List Float) → turned (mark b l) (held b f l) ≡ kept_or_flat b f l
unfolding flattened
turned_held true f l = refl
turned_held false f [] = refl
turned_held false f (x ∷ l) = refl

pub turned_flat : (g : Input) (s : Slices) → Levelled (columns g) g.pairs (sums_to g (length g.stored.pattern.row_idx)) s
    → turned_all (columns g) s ≡ flat_factors g
unfolding turned_all
turned_flat g s h =
    doubles_same _ (flat_factor_at g) (columns g)
    (λ i l. ap₂ turned (h.marks_at i l) (h.factors_at i l) ∙ turned_held (is_matched (columns g) g.pairs i) (factor_at (columns g) g.pairs i) _)

-- ---- the last pass
pub turned_length : (n : ℕ) (s : Slices) → length (turned_all n s) ≡ n
unfolding turned_all
turned_length n s = doubles_length _ n

turned_at : (n : ℕ) (s : Slices) (i : ℕ) → i < n → get_or (turned_all n s) i nan ≡ turned (get_or s.work i 0) (get_or s.factors i nan)
unfolding turned_all
turned_at n s i h = doubles_at _ n i h

pub turn_next : (n : ℕ) (before : List Float) (work : List ℕ) {list : List Float} {i : ℕ} {x : Float} → length before ≡ n → i < n
    → x ≡ turned (get_or work i 0) (get_or list i nan) → Front (turned_all n (slices before work)) before list i
    → Front (turned_all n (slices before work)) before (set list i x) (i + 1)
turn_next n before work {list} {i} {x} room h e f =
    front_next f (omega arith) (e ∙ ap (turned (get_or work i 0)) (front_reads f) ∙ sym (turned_at n (slices before work) i h))

-- a test as a number
pub byte_bit : (b : Bool) → bool_byte b ≡ bit b
byte_bit true = refl
byte_bit false = refl

-- ---- the whole
-- before the first place there are no sums
no_places : (g : Input) (s : Slices) → Levelled (columns g) g.pairs no_sums s → Levelled (columns g) g.pairs (sums_to g 0) s
unfolding places_to sums_over
no_places g s h = levelled_same (columns g) g.pairs no_sums (sums_to g 0) s h (λ i l u. refl)

pub flat_written : (c : Match Float) (m : Matrix) (logs : List Float) {s t : Slices} {factors : List Float} {work : List ℕ}
    → Levelled m.pattern.n c no_sums s
    → Enters m logs 0 (length m.pattern.row_idx) s t → factors ≡ turned_all m.pattern.n t → work ≡ replicate (length t.work) 0
    → slices factors work ≡ slices (flat_factors (input c m logs)) (replicate m.pattern.n 0)
flat_written c m logs {s} {t} {factors} {work} start enters turn clear =
    let end : Levelled m.pattern.n c (sums_to (input c m logs) (length m.pattern.row_idx)) t = enters.levels c (no_places (input c m logs) s start) in
    let f : factors ≡ flat_factors (input c m logs) = turn ∙ turned_flat (input c m logs) t end in
    let w : work ≡ replicate m.pattern.n 0 = clear ∙ ap (λ (k : ℕ). replicate k 0) end.words in
    λ i. record { factors = f i; work = w i }
