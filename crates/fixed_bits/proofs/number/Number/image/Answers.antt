use Rattle.fixed_bits.proofs.NumberLemmas.{out_tested, chosen_image, chosen_in_range}
use Rattle.fixed_bits.proofs.number.Number.image.Goals as goal

pub returns-clause-flag : goal.returns-clause-flag
returns-clause-flag c v is =
    let end = c.greatest_magnitude_by-end in
    out_tested c.args.format c.args.self v end.ensures.valid.is_width is c.args.policy c.is_above-is_out_of_range.result end.result end.ensures.magnitude c.is_above-is_out_of_range.ensures

pub returns-clause-image : goal.returns-clause-image
returns-clause-image c v is admitted =
    let a = c.args in
    let end = c.greatest_magnitude_by-end in
    rw (c.choice.ensures, c.choice-2.ensures) (chosen_image a.format a.self v end.ensures.valid.is_width is a.policy c.is_above-is_out_of_range.result c.is_at_end-is_end.result end.result c.wrapped-negative.result.1 c.wrapped-negative.result.0 end.ensures.magnitude c.is_above-is_out_of_range.ensures c.is_at_end-is_end.ensures c.wrapped-negative.ensures.same c.wrapped-negative.ensures.image admitted)

pub returns-clause-range : goal.returns-clause-range
returns-clause-range c =
    let end = c.greatest_magnitude_by-end in
    rw (c.choice.ensures, c.choice-2.ensures) (chosen_in_range c.args.format c.args.policy c.is_at_end-is_end.result c.args.self.negative c.wrapped-negative.result.0 end.result c.wrapped-negative.result.1 end.ensures.magnitude c.wrapped-negative.ensures.image.in_range)
