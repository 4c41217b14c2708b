use Rattle.std.proofs.Common.{sym, ◌∙◌}
use Rattle.fixed_bits.proofs.NumberLemmas.{half_of_ones}
use Rattle.fixed_bits.proofs.number.greatest_magnitude.Goals as goal

pub returns-then-signed-clause-magnitude : goal.returns-then-signed-clause-magnitude
returns-then-signed-clause-magnitude c =
    let ones = c.ones-ones in
    half_of_ones c.args.format.signed c.args.negative c.args.format.width ones.result c.from.result ones.ensures.valid.is_width (sym c.signed.ensures ∙ c.if-signed.true) ones.ensures.ones c.from.ensures
