-- `answer` meets its contract: the bytes lent on are the buffer's front, by which every input is answered that begins so.
use Rattle.std.proofs.Common.{◌∙◌, ap, List, ℕ, arith}
use Rattle.text_answer.specs.Answer.{report_written, answer_text}
use Rattle.text_answer.proofs.Files.{whole, by_input, clipped}
use Rattle.text_answer.proofs.Again.{again}
use Rattle.text_answer.proofs.answer.Goals as goal

pub returns : goal.returns
returns c =
    let a = c.args in
    let text = c.answer_input.ensures.text
    ∙ ap (λ (l : List ℕ). report_written (answer_text a.form l) a.output.now) (clipped a.count a.buffer.now c.told-buffer c.min.ensures) in
    let by = whole a.form a.count a.buffer.now a.output.now c.told-buffer text in
    record {
      text = text;
      whole = by;
      file = by_input a.form a.count a.buffer.now a.output.now by;
      again = again a.form a.count a.buffer.now a.output.now text (omega (arith, c.answer_input.ensures.fits, c.told-output));
      fits = omega (arith, c.answer_input.ensures.fits, c.answer_input.auto.output, c.told-output);
    }
