-- The match accepts the costs of a column of logs in range: each is the largest log minus another, rounded (`sub_below`).
use mathlib.Core.Path.{◌≡◌, refl, sym, ap, ◌∙◌}
use mathlib.Core.Bool.{Bool, true, false, cond}
use mathlib.Core.List.{List, [], ◌∷◌}
use Prim.Native.Nat.{ℕ, zero, suc, ◌≤◌, ◌<◌}
use native.Mathlib.Nat.{le_refl}
use native.Mathlib.Omega.{arith}
use borrow.Author.Tests.{ltb-true, ltb-false}
use lib.Dec.{ltb}
use lib.ListN.{length, get_or}
use lib.Ieee.{Float, nan, binary64, sub, lt}
use Rattle.float64.specs.Number.{Number}
use Rattle.float64.specs.inner.Keys.{position}
use Rattle.float64.proofs.Order.{lt_key}
use Rattle.float64.proofs.WholeNumbers.{ordered}
use Rattle.cost_limit.specs.Range.{in_range, in_log_range}
use Rattle.cost_limit.proofs.Range.{log_number, sub_below}
use Rattle.mc64_columns.specs.Columns.{largest, largest_from, normalised, below}
use Rattle.mc64_columns.specs.inner.Steps.{Logs}

-- a log in range
record Log (n : ℕ) (x : Float) : Type 0 where
  number : Number x
  fits : in_log_range n x ≡ true

-- ---- the largest log
AllLogs : ℕ → List Float → Type 0
AllLogs n l = (k : ℕ) → k < length l → Log n (get_or l k nan)

-- x is a log, and none of the list is larger
record Top (n : ℕ) (l : List Float) (x : Float) : Type 0 where
  log : Log n x
  most : (k : ℕ) → k < length l → position (get_or l k nan) ≤ position x

one_more : {n : ℕ} (c : Float) (l : List Float) (x : Float) → position c ≤ position x → Top n l x → Top n (c ∷ l) x
one_more c l x h t = record { log = t.log; most = go }
  where
    go : (k : ℕ) → k < length (c ∷ l) → position (get_or (c ∷ l) k nan) ≤ position x
    go zero g = h
    go (suc k) g = t.most k (omega arith)

-- of `top` and the list
larger : (n : ℕ) (top : Float) (l : List Float) → Log n top → AllLogs n l → Top n (top ∷ l) (largest_from top l)
unfolding largest_from AllLogs
larger n top [] L A = one_more top [] top (le_refl (position top)) (record { log = L; most = λ k h. absurd (omega arith) })
larger n top (c ∷ l) L A = go (lt top c) refl (larger n c l C rest) (larger n top l L rest)
  where
    C : Log n c
    C = A 0 (omega arith)

    rest : AllLogs n l
    rest k h = A (suc k) (omega arith)

    order : lt top c ≡ ltb (position top) (position c)
    order = lt_key top c (ordered top L.number) (ordered c C.number)

    go : (t : Bool) → lt top c ≡ t → Top n (c ∷ l) (largest_from c l) → Top n (top ∷ l) (largest_from top l) → Top n (top ∷ c ∷ l) (largest_from (cond t c top) l)
    go true e t _ = one_more top (c ∷ l) (largest_from c l) (omega (arith, ltb-true (position top) (position c) (sym order ∙ e), t.most 0 (omega arith))) t
    go false e _ t =
        let h : position top ≤ position (largest_from top l) = t.most 0 (omega arith) in
        let after : Top n l (largest_from top l) = record { log = t.log; most = λ k g. t.most (suc k) (omega arith) } in
        one_more top (c ∷ l) (largest_from top l) h
        (one_more c l (largest_from top l) (omega (arith, ltb-false (position top) (position c) (sym order ∙ e))) after)

largest_top : (n : ℕ) (l : List Float) → 0 < length l → AllLogs n l → Top n l (largest l)
unfolding largest AllLogs
largest_top n [] h A = absurd (omega arith)
largest_top n (c ∷ l) h A = larger n c l (A 0 (omega arith)) (λ k g. A (suc k) (omega arith))

-- ---- the costs
pub cost_at : (top : Float) (l : List Float) (k : ℕ) → k < length l → get_or (below top l) k nan ≡ sub binary64 top (get_or l k nan)
cost_at top [] k h = absurd (omega arith)
cost_at top (c ∷ l) zero h = refl
cost_at top (c ∷ l) (suc k) h = cost_at top l k (omega arith)

-- the match's own test accepts every cost of a column of logs in range
pub normalised_accepted : (n : ℕ) → 0 < n → (l : List Float) → Logs n l → (k : ℕ) → k < length l → in_range n (get_or (normalised l) k nan) ≡ true
unfolding normalised AllLogs
normalised_accepted n some l A k h =
    let logs : AllLogs n l = λ i g. record { number = log_number n (get_or l i nan) (A i g).0 (A i g).1; fits = (A i g).1 } in
    let t : Top n l (largest l) = largest_top n l (omega arith) logs in
    ap (in_range n) (cost_at (largest l) l k h) ∙ sub_below n (largest l) (get_or l k nan) some t.log.number (logs k h).number t.log.fits
    (logs k h).fits (t.most k h)
