-- What is printed for the bytes read (SPECIFICATION 11.1): the text of a complete input, else that it could not be
-- read.
use Rattle.std.specs.Prelude.{Option, Some, None, List, ℕ, length, take}
use Rattle.std.proofs.lemmas.List.Edits.{sets}
use Rattle.text_report.specs.declared.Form.{Form}
use Rattle.text_answer.specs.Answer.{answer_text}

-- what is answered, the length of a text or none if the input could not be read, and what the output then holds
pub record Telling : Type 0 where
  pub told : Option ℕ
  pub output : List ℕ

abbrev pub telling : Option ℕ → List ℕ → Telling
telling told output = record { told = told; output = output }

-- a text is put over the front of the output
abbrev pub told_of : Form → Option ℕ → List ℕ → List ℕ → Telling
told_of form (Some count) buffer old =
    let text = answer_text form (take count buffer) in telling (Some (length text)) (sets old 0 text)
told_of form None buffer old = telling None old
