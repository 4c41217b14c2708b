use Rattle.std.proofs.Common.{arith}
use Rattle.fixed_write.proofs.PaddingLemmas.{padded_zeros, padded_sides}
use Rattle.fixed_write.proofs.styled_text.padded_parts.Goals as goal

pub returns-then-style : goal.returns-then-style
returns-then-style c =
    padded_zeros c.args.style.now c.bytes_of-fill.result c.args.prefix c.args.digits c.args.tail c.args.zeros c.saturating_sub-padding.result c.if-style.true
    (omega (arith, c.saturating_sub-padding.ensures, c.len.ensures.value, c.len-2.ensures.value, c.len-3.ensures.value))

pub returns-else-style : goal.returns-else-style
returns-else-style c =
    padded_sides c.args.style.now c.bytes_of-fill.result c.args.prefix c.args.digits c.args.tail c.args.zeros c.saturating_sub-padding.result c.fills_before-before.result c.bytes_of-fill.ensures c.if-style.false
    (omega (arith, c.saturating_sub-padding.ensures, c.len.ensures.value, c.len-2.ensures.value, c.len-3.ensures.value))
    c.fills_before-before.ensures.value
