-- SPECIFICATION 11.4: The text of a match by the requested form.
use Rattle.std.specs.Prelude.{List, ℕ, get_or, Float}
use Rattle.text_report.specs.declared.Form.{Form}
use Rattle.text_report.specs.declared.Form.TheVariants.{Report, Pairs}
use Rattle.text_report.specs.Report.{match_text}
use Rattle.text_report.specs.Pairs.{pairs_text}

-- n, perm, u, v and the counts, the first of which is the number of pairs
unfoldable pub form_text : Form → ℕ → List ℕ → List Float → List Float → List ℕ → List ℕ
form_text Report n perm u v counts = match_text n perm u v counts
form_text Pairs n perm u v counts = pairs_text n (get_or counts 0 0) perm
