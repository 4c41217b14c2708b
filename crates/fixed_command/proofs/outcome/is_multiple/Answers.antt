use Rattle.std.proofs.Common.{◌*◌, ◌/◌, ◌^◌, ◌==◌, ap, pow_pos, arith}
use Rattle.std.proofs.Math.Nat.{div-mul-le_self}
use Rattle.fixed_command.proofs.OutcomeNumbers.{is_multiple_of}
use Rattle.fixed_command.proofs.outcome.is_multiple.Goals as goal

pub overflow_mul-result : goal.overflow_mul-result
overflow_mul-result c = rw c.power.ensures.value (omega (arith, c.ranges.number.fits, div-mul-le_self c.args.number (2 ^ c.args.exponent)))

pub returns : goal.returns
returns c = is_multiple_of c.args.number (2 ^ c.args.exponent) (pow_pos c.args.exponent) _ (ap (λ p. c.args.number / 2 ^ c.args.exponent * p == c.args.number) c.power.ensures.value)
