use Rattle.std.proofs.Common.{◌∙◌}
use Rattle.fixed_write.proofs.PaddingLemmas.{padded_zeros, padded_sides}
use Rattle.fixed_write.proofs.text.padded.Goals as goal

pub returns-then-style : goal.returns-then-style
returns-then-style c =
    rw (padded_zeros c.args.style.now c.as_bytes-fill.result.now c.args.prefix.now c.args.body.now.digits.now c.args.body.now.tail.now c.args.body.now.zeros c.saturating_sub-padding.result c.if-style.true c.saturating_sub-padding.ensures) at c.written.ensures

pub returns-else-style : goal.returns-else-style
returns-else-style c =
    rw (padded_sides c.args.style.now c.as_bytes-fill.result.now c.args.prefix.now c.args.body.now.digits.now c.args.body.now.tail.now c.args.body.now.zeros c.saturating_sub-padding.result c.fills_before-before.result (c.as_bytes-fill.ensures.value ∙ c.encode_utf8.ensures.value) c.if-style.false c.saturating_sub-padding.ensures c.fills_before-before.ensures.value) at c.written-else-style.ensures
