-- A refusal of the match leaves the bytes; its counts and slices are laid down as bytes.
use Rattle.std.proofs.Common.{◌≡◌, ◌∙◌, rules}
use Rattle.refusal.specs.Number.{number, number_of}
use Rattle.byte_forms.proofs.ByteMatches.{laying, matched_bytes, refused_bytes}
use Rattle.byte_forms.proofs.match_bytes.match_in.Goals as goal

pub returns-in_err-found : goal.returns-in_err-found
returns-in_err-found c =
    let same : number_of c.from_residual.result ≡ number c.in_err-found.field-0.0 = search rules in
    rw same (refused_bytes c.requires.fact _ c.in_err-found.ensures.outcome)

pub put_match-requires : goal.put_match-requires
put_match-requires c =
    let lent = c.requires.fact in
    let kept = c.hungarian_match.auto in
    laying c.requires.roomy (kept.perm ∙ lent.perm) (kept.u ∙ lent.u) (kept.v ∙ lent.v)

pub returns : goal.returns
returns c = matched_bytes c.requires.fact _ c.in_ok-found.ensures.outcome c.put_match.ensures
