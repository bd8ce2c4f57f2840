-- The measure of `put_decimal` is the number: a tenth of it is smaller.
use Rattle.text_report.proofs.+put_decimal.Given as goal

abbrev pub decreases-put_decimal : goal.decreases-put_decimal
decreases-put_decimal l = l.value
