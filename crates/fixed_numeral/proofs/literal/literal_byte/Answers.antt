use Rattle.std.proofs.Common.{sym, ◌∙◌, ne_eqb}
use Rattle.fixed_numeral.proofs.ScanLemmas.{is_off, is_on}
use Rattle.fixed_numeral.proofs.LiteralScanLemmas.{underscore_passed, underscore_stuck, sign_in_prefix, step_result}
use Rattle.fixed_numeral.proofs.literal.literal_byte.Goals as goal

pub returns-then-last_part_has_digit : goal.returns-then-last_part_has_digit
returns-then-last_part_has_digit c = λ bs p h a. underscore_passed c.args.radix bs p c.args.state c.args.b h a c.requires.room c.if-b-eq95.true (is_off _ (sym (c.last_part_has_digit.ensures c.args.radix p a) ∙ c.if-last_part_has_digit.true))

pub returns-else-last_part_has_digit : goal.returns-else-last_part_has_digit
returns-else-last_part_has_digit c = λ bs p h a. underscore_stuck c.args.radix bs p c.args.b h c.if-b-eq95.true (is_on _ (sym (c.last_part_has_digit.ensures c.args.radix p a) ∙ c.if-last_part_has_digit.false))

pub returns-then-is_leading_sign : goal.returns-then-is_leading_sign
returns-then-is_leading_sign c = λ bs p h a. sign_in_prefix c.args.radix bs p c.args.state c.args.b h a (ne_eqb _ _ c.if-b-eq95.false) (sym c.is_leading_sign.ensures ∙ c.if-is_leading_sign.true)

pub returns-else-is_leading_sign : goal.returns-else-is_leading_sign
returns-else-is_leading_sign c = λ bs p h a. step_result c.args.radix bs p c.args.state c.args.b c.transition.result h a c.if-b-eq95.false (ne_eqb _ _ c.if-b-eq95.false) (sym c.is_leading_sign.ensures ∙ c.if-is_leading_sign.false) (c.transition.ensures _ p h.beginning a)
