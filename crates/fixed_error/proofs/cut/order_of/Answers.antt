use Rattle.std.proofs.Common.{◌^◌}
use Rattle.std.specs.Prelude.{min}
use Rattle.std.proofs.lemmas.Int.Digits.{number_lt}
use Rattle.fixed_numeral.specs.Numeral.{base}
use Rattle.fixed_error.specs.Inner.Sums.{Decides}
use Rattle.fixed_error.proofs.CutLemmas.{order_greater, order_less}
use Rattle.fixed_error.proofs.GapLemmas.{base_least}
use Rattle.fixed_error.proofs.cut.order_of.Goals as goal

pub returns-clause-less : goal.returns-clause-less
returns-clause-less g c =
    let b = base c.args.radix in
    let ds = c.args.digits.now in
    let decided : Decides b ds ds (record { whole = min c.args.whole (2 ^ 68); one = 0; other = 0 }) (record { whole = 0; one = c.args.unit; other = 0 }) c.is_sum_greater-is_less.result = rw (c.base-base.ensures, c.whole_sum-bound.ensures) at c.is_sum_greater-is_less.ensures.decides in
    order_less b c.args.unit c.args.whole ds c.is_sum_greater-is_less.result (base_least c.args.radix) c.requires.unit (number_lt b ds c.requires.digits) decided

pub returns-clause-greater : goal.returns-clause-greater
returns-clause-greater g c =
    let b = base c.args.radix in
    let ds = c.args.digits.now in
    let decided : Decides b ds ds (record { whole = 0; one = c.args.unit; other = 0 }) (record { whole = min c.args.whole (2 ^ 68); one = 0; other = 0 }) c.is_sum_greater-is_greater.result = rw (c.base-base.ensures, c.whole_sum-bound.ensures) at c.is_sum_greater-is_greater.ensures.decides in
    order_greater b c.args.unit c.args.whole ds c.is_sum_greater-is_greater.result (base_least c.args.radix) c.requires.unit (number_lt b ds c.requires.digits) decided
