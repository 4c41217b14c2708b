use Rattle.std.proofs.Common.{inl, refl}
use Rattle.fixed_c.proofs.words.named_format.Goals as goal

pub returns-in-None : goal.returns-in-None
returns-in-None c = inl ((λ named. c.in-None.ensures named.0 named.1), refl)
