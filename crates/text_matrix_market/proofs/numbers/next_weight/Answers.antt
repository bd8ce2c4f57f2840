-- `numbers::next_weight` meets its contract: by the kind.
use Rattle.std.proofs.Common.{refl}
use Rattle.text_matrix_market.specs.inner.Steps.{weight_field}
use Rattle.text_matrix_market.proofs.numbers.next_weight.Goals as goal

pub returns-in-General : goal.returns-in-General
unfolding weight_field
returns-in-General c = rw c.in-General.is c.next_number.ensures

pub returns-in-Symmetric : goal.returns-in-Symmetric
unfolding weight_field
returns-in-Symmetric c = rw c.in-Symmetric.is c.next_number-in-Symmetric.ensures

pub returns-in-Pattern : goal.returns-in-Pattern
unfolding weight_field
returns-in-Pattern c = rw c.in-Pattern.is refl
