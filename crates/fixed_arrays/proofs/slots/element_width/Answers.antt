use Rattle.std.proofs.Common.{sym}
use Rattle.fixed_arrays.proofs.SlotLemmas.{width_8, width_16, width_32, width_64}
use Rattle.fixed_arrays.proofs.slots.element_width.Goals as goal

pub returns-then-width-gt32-clause-value : goal.returns-then-width-gt32-clause-value
returns-then-width-gt32-clause-value c = sym (width_64 c.args.width c.if-width-gt32.true)

pub returns-then-width-gt16-clause-value : goal.returns-then-width-gt16-clause-value
returns-then-width-gt16-clause-value c = sym (width_32 c.args.width c.if-width-gt32.false c.if-width-gt16.true)

pub returns-then-width-gt8-clause-value : goal.returns-then-width-gt8-clause-value
returns-then-width-gt8-clause-value c = sym (width_16 c.args.width c.if-width-gt16.false c.if-width-gt8.true)

pub returns-else-width-gt8-clause-value : goal.returns-else-width-gt8-clause-value
returns-else-width-gt8-clause-value c = sym (width_8 c.args.width c.if-width-gt8.false)
