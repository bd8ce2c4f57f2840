-- `conclude` meets its contract: by the cases of the stage.
use Rattle.std.proofs.Common.{refl}
use Rattle.text_matrix_market.specs.File.{reading_at_end}
use Rattle.text_matrix_market.proofs.Runs.{complete, incomplete}
use Rattle.text_matrix_market.proofs.conclude.Goals as goal

pub returns-in-Start : goal.returns-in-Start
unfolding reading_at_end
returns-in-Start c = λ l. rw c.in-Start.is refl

pub returns-in-Sizing : goal.returns-in-Sizing
unfolding reading_at_end
returns-in-Sizing c = λ l. rw c.in-Sizing.is refl

pub returns-in-Entering : goal.returns-in-Entering
returns-in-Entering c = λ l. rw c.in-Entering.is (complete _ _ _ _ l c.if-read-count.true)

pub returns-in-Entering-2 : goal.returns-in-Entering-2
returns-in-Entering-2 c = λ l. rw c.in-Entering.is (incomplete _ _ _ _ l c.if-read-count.false)
