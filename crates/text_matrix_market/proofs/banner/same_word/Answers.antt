-- `banner::same_word` meets its contract: words of one length are compared byte by byte, others differ.
use Rattle.std.proofs.Common.{◌∙◌, ℕ, eqb, rules}
use borrow.Author.Tests.{tests, ne_eqb}
use Rattle.std.specs.Char.{to_ascii_lowercase}
use Rattle.std.proofs.lemmas.Iterator.{YieldsList-from_slice, YieldsList-from_zip}
use Rattle.std.proofs.lemmas.Iterator.Search.{all_from_yields_List}
use Rattle.text_matrix_market.proofs.Names.{same_bytes, same_length}
use Rattle.text_matrix_market.proofs.banner.same_word.Goals as goal

pub returns-then-word-name : goal.returns-then-word-name
returns-then-word-name c =
    let word = c.args.word.now in
    let name = c.args.name.now in
    let compared = all_from_yields_List (λ (p : ℕ × ℕ). eqb (to_ascii_lowercase p.0) p.1) c.all.new.self _ c.all.result c.all.ensures.ran
    (YieldsList-from_zip (YieldsList-from_slice word cc) (YieldsList-from_slice name cc)) (λ x b q k. search (rules, tests)) in
    compared ∙ same_bytes word name c.if-word-name.true

pub returns-else-word-name : goal.returns-else-word-name
returns-else-word-name c = ne_eqb _ _ c.if-word-name.false ∙ same_length c.args.word.now c.args.name.now c.if-word-name.false
