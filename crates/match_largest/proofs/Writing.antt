-- A list written from the front is the table of what is written. By the laws of lists that agree from the front.
use mathlib.Core.Path.{◌≡◌, sym, ◌∙◌, subst}
use mathlib.Core.List.{List}
use Prim.Native.Nat.{ℕ, ◌+◌, ◌<◌}
use native.Mathlib.Omega.{arith}
use lib.ListN.{length, set, take}
use Rattle.slices.specs.Lists.{tabulate}
use Rattle.slices.proofs.Lists.{length_table, table_at, copied, whole}

module _ (n : ℕ) (f : ℕ → ℕ) (l : List ℕ) (i : ℕ) where
  pub write_goes_on : i < n → length l ≡ n → {x : ℕ} → x ≡ f i → take i l ≡ take i (tabulate n f) → take (i + 1) (set l i x) ≡ take (i + 1) (tabulate n f)
  write_goes_on h e {x} q t = copied l (tabulate n f) i x 0 (omega arith) (omega (arith, length_table n f)) (q ∙ sym (table_at n f i h)) t

  pub write_ends : i ≡ n → length l ≡ n → take i l ≡ take i (tabulate n f) → l ≡ tabulate n f
  write_ends h e t = whole n l (tabulate n f) e (length_table n f) (subst (λ (m : ℕ). take m l ≡ take m (tabulate n f)) h t)
