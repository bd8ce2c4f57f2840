-- What the inner functions require and promise.
use Rattle.std.specs.Prelude.{◌≡◌, true, List, ℕ, ◌+◌, ◌<◌, T, length, get_or, Float}
use Rattle.std.specs.Float.{nan, binary64}
use Rattle.std.specs.Float.Ieee.{fits}
use Rattle.cost_limit.specs.Range.{in_log_range}
use Rattle.whole_log.specs.Log.{whole_log, double_of}
use Rattle.log_lanes.specs.inner.Lanes.{answer_of}
use Rattle.mc64_columns.specs.declared.LogSource.{LogSource}
use Rattle.mc64_columns.specs.declared.LogSource.TheVariants.{Lent, Own}
use Rattle.mc64_columns.specs.Columns.{value_logs}
use Rattle.mc64_columns.specs.Graphs.{GraphColumns, Slices, built, kept_before}

-- the logs of entries: the lent ones or, if values are lent in their place, those of the values
abbrev pub entry_log : LogSource → Float → Float
entry_log Lent lent = lent
entry_log Own lent = double_of (whole_log lent)

abbrev pub entry_logs : LogSource → List Float → List Float
entry_logs Lent lent = lent
entry_logs Own lent = value_logs lent

-- a word that is given with what is lent: where the logs are the values' own, it stands for the value's logarithm
abbrev pub WordOf : LogSource → Float → ℕ → Type 0
WordOf Lent lent word = Unit {0}
WordOf Own lent word = answer_of word ≡ whole_log lent

-- the words of all that is lent, from `at` on
abbrev pub Worded : LogSource → List Float → ℕ → List ℕ → Type 0
Worded source lent at words = (k : ℕ) → k < length lent → WordOf source (get_or lent k nan) (get_or words (at + k) 0)

-- they were put there, and before `at` stands what stood there
pub record WordsPut (source : LogSource) (lent : List Float) (at : ℕ) (before words : List ℕ) : Type 0 where
  pub there : Worded source lent at words
  pub kept : (j : ℕ) → j < at → get_or words j 0 ≡ get_or before j 0

-- every log is a double in range for n columns
abbrev pub Logs : ℕ → List Float → Type 0
Logs n l = (k : ℕ) → k < length l → T (fits binary64 (get_or l k nan)) × (in_log_range n (get_or l k nan) ≡ true)

-- what the building of an accepted matrix answers and leaves
pub record GraphBuilt (n : ℕ) (g : GraphColumns) (logs : List Float) (before after : Slices) (kept : ℕ) : Type 0 where
  pub count : kept ≡ kept_before g n
  pub slices : after ≡ built n g logs before
