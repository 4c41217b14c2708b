use Rattle.std.proofs.Common.{arith, ap, ◌∙◌, length, refl}
use Rattle.fixed_write.proofs.SixteenLemmas.{whole_digit}
use Rattle.fixed_write.proofs.digits.push_whole.Goals as goal

pub push-requires : goal.push-requires
push-requires g c = omega (arith, ap length (whole_digit c.args.number c.if-number-lt10.true))

pub returns-then-number-lt10 : goal.returns-then-number-lt10
returns-then-number-lt10 g c = c.push.ensures ∙ rw (whole_digit c.args.number c.if-number-lt10.true) refl
