use Rattle.fixed_convert.proofs.floored.reformat_signed.Goals as goal

pub returns-clause-image : goal.returns-clause-image
returns-clause-image c = c.image.ensures.image _ (rw c.frac.ensures.frac at c.moved.ensures.value)

pub returns-clause-verdict : goal.returns-clause-verdict
returns-clause-verdict c = c.image.ensures.flag _ (rw c.frac.ensures.frac at c.moved.ensures.value)
