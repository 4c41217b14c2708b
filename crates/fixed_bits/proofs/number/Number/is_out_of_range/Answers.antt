use Rattle.fixed_bits.specs.declared.format.Policy.TheVariants.{Checked}
use Rattle.fixed_bits.proofs.NumberLemmas.{out_tested}
use Rattle.fixed_bits.proofs.number.Number.is_out_of_range.Goals as goal

pub returns-clause-range : goal.returns-clause-range
returns-clause-range c v is =
    let limit = c.greatest_magnitude in
    out_tested c.args.format c.args.self v limit.ensures.valid.is_width is Checked c.is_above.result limit.result limit.ensures.magnitude c.is_above.ensures
