use Rattle.fixed_write.proofs.SixteenLemmas.{pair_pushed}
use Rattle.fixed_write.proofs.digits.push_pair.Goals as goal

pub returns : goal.returns
returns g c = pair_pushed c.args.number _ _ _ c.requires.number c.push.ensures c.push-2.ensures
