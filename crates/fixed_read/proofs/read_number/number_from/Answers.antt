use Rattle.std.proofs.Common.{refl}
use Rattle.fixed_read.proofs.ReadLemmas.{reading_from}
use Rattle.fixed_read.proofs.read_number.number_from.Goals as goal

pub returns-clause-reading : goal.returns-clause-reading
returns-clause-reading c mode r p number sign some same mag = reading_from mode r p number c.args.ulps _ sign some same mag refl refl refl
