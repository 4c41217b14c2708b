use Rattle.fixed_error.proofs.HalfLemmas.{far_near}
use Rattle.fixed_error.proofs.half.near_lengths.Goals as goal

pub returns : goal.returns
returns c = λ f few is. far_near c.args.word c.binary_digits.result f c.requires few c.binary_digits.ensures.least c.binary_digits.ensures.most (c.near_places.ensures f few is)
