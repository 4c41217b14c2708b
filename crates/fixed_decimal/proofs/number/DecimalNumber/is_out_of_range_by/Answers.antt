use Rattle.fixed_decimal.proofs.number.DecimalNumber.is_out_of_range_by.Goals as goal

pub returns : goal.returns
returns c v is = rw (c.words.ensures.signed, c.words.ensures.width) at (c.is_out_of_range_by.ensures.range v is)
