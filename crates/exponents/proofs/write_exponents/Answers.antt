-- What is written at i is the exponent of the factor there, since no factor has a fault.
use Rattle.std.proofs.Common.{◌≡◌, w32, to_z, of_z, length, get_or, map, ◌∙◌, length-set, arith}
use Rattle.std.proofs.lemmas.List.{length-map}
use Rattle.std.specs.Float.{nan}
use Rattle.slices.proofs.Lists.{copied}
use Rattle.exponents_powers.proofs.Fields.{read_is}
use Rattle.exponents.specs.Exponent.{exponent_of}
use Rattle.exponents.proofs.Calling.{factor_fits_lem, exponent_at_lem}
use Rattle.exponents.proofs.write_exponents.Goals as goal

pub loop-i-preserved : goal.loop-i-preserved
loop-i-preserved g c = λ u e gives fine.
    let i = c.loop-i.i in
    let n : length u ≡ length c.loop-i.exponents = e ∙ length-set _ _ _ in
    let x : to_z w32 (of_z w32 c.exponent_of.result) ≡ get_or (map exponent_of u) i (exponent_of nan) =
    read_is c.exponent_of.result c.exponent_of.type_inv
    ∙ exponent_at_lem u i (rw (gives.at i (omega arith) _ c.factor.ensures) at c.exponent_of.ensures) (factor_fits_lem u fine i (omega arith)) in
    copied c.loop-i.exponents (map exponent_of u) i (to_z w32 (of_z w32 c.exponent_of.result)) (exponent_of nan) (omega arith)
    (omega (arith, length-map u exponent_of)) x (c.loop-i.invariant u n gives fine)
