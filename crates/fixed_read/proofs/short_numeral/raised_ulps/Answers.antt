use Rattle.std.proofs.Common.{◌*◌, ◌-◌, ◌/◌, ◌^◌, arith, refl}
use Rattle.fixed_read.proofs.ShortNumeralLemmas.{raised, far_up, far_some, word_up, word_over}
use Rattle.fixed_read.proofs.short_numeral.raised_ulps.Goals as goal

pub returns-then-by-ge64 : goal.returns-then-by-ge64
returns-then-by-ge64 c mode num den frac some e = raised mode num den frac (c.args.digits * 2 ^ c.args.by) (c.args.digits * 2 ^ (c.args.by - 64)) _ some e refl (far_up c.args.digits c.args.by (omega arith)) (far_some c.args.digits c.args.by c.exceeds.result c.exceeds.ensures)

pub returns : goal.returns
returns c mode num den frac some e = raised mode num den frac (c.args.digits * 2 ^ c.args.by) (c.args.digits * 2 ^ c.args.by / 2 ^ 64) _ some e refl (word_up c.args.digits c.args.by) (word_over c.args.digits c.args.by c.exceeds-2.result c.exceeds-2.ensures)
