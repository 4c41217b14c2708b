use Rattle.std.proofs.Common.{◌+◌, ◌*◌, ◌^◌}
use Rattle.fixed_decimal.proofs.UnitsLemmas.{parity, rounded_units}
use Rattle.fixed_decimal.proofs.units.rounded.Goals as goal

pub returns : goal.returns
returns c number n some h = rounded_units c.args.mode number n c.args.count c.rounding_increment.result c.split_word-low.result.1 _ some h (c.rounding_increment.ensures.to (h.high * 2 ^ 64 + c.args.count.units) h.rest h.unit h.some (parity h.high c.args.count.units) h.left) (rw c.from.ensures at c.split_word-low.ensures.low) (rw c.from.ensures at c.split_word-low.ensures.over) c.either.ensures c.is_nothing.ensures
