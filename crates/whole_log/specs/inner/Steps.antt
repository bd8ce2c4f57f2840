-- What the loop over the digits keeps.
use Rattle.std.specs.Prelude.{◌≡◌, ℕ, ◌+◌, ◌*◌, ◌^◌, ◌≤◌, ◌<◌}
use Rattle.whole_log.specs.Log.{log_from}

-- with k digits left, m has 32 digits, e stays below `top`, and the whole logarithm is that of m and e from here on
pub record Running (top m₀ e₀ k m e : ℕ) : Type 0 where
  pub full : 2 ^ 31 ≤ m
  pub short : m < 2 ^ 32
  pub room : (e + 1) * 2 ^ k ≤ top * 65536
  pub rest : log_from k m e ≡ log_from 16 m₀ e₀
