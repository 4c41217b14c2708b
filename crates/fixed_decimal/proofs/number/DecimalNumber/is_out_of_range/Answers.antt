use Rattle.fixed_decimal.proofs.number.DecimalNumber.is_out_of_range.Goals as goal

pub returns : goal.returns
returns c v is = rw (c.words.ensures.signed, c.words.ensures.width) at (c.is_out_of_range.ensures.range v is)
