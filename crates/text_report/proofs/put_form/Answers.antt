-- `put_form` meets its contract: each form by its own function.
use Rattle.text_report.specs.Form.{form_text}
use Rattle.text_report.proofs.put_form.Goals as goal

pub returns-in-Report : goal.returns-in-Report
unfolding form_text
returns-in-Report c = rw c.in-Report.is c.put_match.ensures

pub returns-in-Pairs : goal.returns-in-Pairs
unfolding form_text
returns-in-Pairs c = rw c.in-Pairs.is c.put_pairs.ensures
