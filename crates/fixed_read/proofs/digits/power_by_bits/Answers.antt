use Rattle.std.proofs.Common.{◌*◌, ◌^◌, ◌∙◌, sym, ap, arith}
use Rattle.fixed_numeral.proofs.Public.{pow-mul}
use Rattle.fixed_read.proofs.NumberLemmas.{two_exponent}
use Rattle.fixed_read.proofs.digits.power_by_bits.Goals as goal

pub overflow_mul-bits : goal.overflow_mul-bits
overflow_mul-bits c = omega (arith, two_exponent (c.args.bits * c.args.n) (rw (c.requires.base, pow-mul 2 c.args.bits c.args.n) at c.requires.room))

pub power_of_two-requires : goal.power_of_two-requires
power_of_two-requires c = two_exponent (c.args.bits * c.args.n) (rw (c.requires.base, pow-mul 2 c.args.bits c.args.n) at c.requires.room)

pub returns : goal.returns
returns c = c.power_of_two.ensures ∙ sym (ap (λ i. i ^ c.args.n) c.requires.base ∙ pow-mul 2 c.args.bits c.args.n)
