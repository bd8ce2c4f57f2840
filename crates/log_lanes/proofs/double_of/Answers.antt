-- A word below all that stand for no logarithm is one.
use Rattle.std.proofs.Common.{◌≡◌, ◌<◌, ◌∙◌, refl, sym, ap, arith}
use Rattle.std.proofs.lemmas.Int.{to_z-of_z}
use Rattle.std.specs.Int.{w32}
use Rattle.std.specs.Float.{nan}
use Rattle.std.specs.Float.Ieee.{binary64, of_int, of_bits}
use Rattle.float64.specs.Constants.{quiet_nan}
use Rattle.whole_log.specs.Log.{double_of, from_units}
use Rattle.whole_log.proofs.Theorems.{fits_i32}
use Rattle.log_lanes.specs.inner.Lanes.{no_log}
use Rattle.log_lanes.proofs.Lanes.{word_is, no_word}
use Rattle.log_lanes.proofs.double_of.Goals as goal

quiet : quiet_nan ≡ nan
unfolding of_bits
quiet = refl

pub returns-then-word-ge-NO_LOG : goal.returns-then-word-ge-NO_LOG
returns-then-word-ge-NO_LOG c = c.quiet_nan.ensures ∙ quiet ∙ sym (ap double_of (no_word _ c.if-word-ge-NO_LOG.true))

pub returns : goal.returns
returns c =
    let word = c.args.word in
    let below : word < no_log = omega (arith, c.if-word-ge-NO_LOG.false) in
    rw c.from_units.ensures
    (ap (of_int binary64) (to_z-of_z w32 (from_units word) (fits_i32 word below)) ∙ sym (ap double_of (word_is word below)))
