-- Logs that agree at the kept places: what the theorems on logs of dropped places ask. Past the end of both lists there is nothing to agree on.
use mathlib.Core.Path.{◌≡◌, sym, ◌∙◌}
use mathlib.Core.Bool.{Bool, true}
use mathlib.Core.List.{List}
use Prim.Native.Nat.{ℕ, ◌<◌}
use native.Mathlib.Decide.{dec_lt}
use native.Mathlib.Omega.{arith}
use lib.Ieee.{Float, nan}
use lib.ListN.{length, get_or, get_or-eq_default}

-- as many logs, and the same at each kept place
pub record Agree (kept : ℕ → Bool) (logs other : List Float) : Type 0 where
  pub same : length logs ≡ length other
  pub agrees : (k : ℕ) → k < length logs → kept k ≡ true → get_or logs k nan ≡ get_or other k nan

pub agree_at : (kept : ℕ → Bool) (logs other : List Float) → Agree kept logs other → (k : ℕ) → kept k ≡ true → get_or logs k nan ≡ get_or other k nan
agree_at kept logs other a k e = go (dec_lt k (length logs))
  where
    go : Dec (k < length logs) → get_or logs k nan ≡ get_or other k nan
    go (yes h) = a.agrees k h e
    go (no h) = get_or-eq_default logs nan (omega arith) ∙ sym (get_or-eq_default other nan (omega (arith, a.same)))
