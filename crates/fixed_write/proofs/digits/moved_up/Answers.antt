use Rattle.std.proofs.Common.{arith, ◌*◌, ap}
use Rattle.fixed_write.proofs.SixteenLemmas.{fits_moved}
use Rattle.fixed_write.proofs.digits.moved_up.Goals as goal

pub overflow_mul-result : goal.overflow_mul-result
overflow_mul-result c =
    rw c.power_of_ten.ensures (omega (arith, fits_moved c.args.places c.args.number c.requires.places c.requires.number))

pub returns : goal.returns
returns c = record {
  value = ap (λ x. c.args.number * x) c.power_of_ten.ensures;
  most = rw c.power_of_ten.ensures (fits_moved c.args.places c.args.number c.requires.places c.requires.number);
}
