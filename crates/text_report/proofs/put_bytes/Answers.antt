-- `put_bytes` meets its contract: the text is copied over its part.
use Rattle.text_report.proofs.Writes.{copied}
use Rattle.text_report.proofs.put_bytes.Goals as goal

pub returns : goal.returns
returns c = rw c.copy_from_slice.ensures.after (copied c.args.out.now c.args.text.now c.args.at c.requires)
