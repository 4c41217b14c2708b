use Rattle.std.proofs.Common.{◌∙◌, [], take, refl, ap, arith}
use Rattle.std.specs.Int.Digits.{number_from_digits}
use Rattle.fixed_numeral.proofs.ViewLemmas.{left_prefix, right_alone}
use Rattle.fixed_numeral.proofs.NumberLemmas.{left_digits}
use Rattle.fixed_numeral.proofs.digit_view.DigitView.prefix_number_by_parts.Goals as goal

-- ---- if all digits stand in the second slice
pub prefix_number-requires-clause-digits : goal.prefix_number-requires-clause-digits
prefix_number-requires-clause-digits c =
    let view = right_alone c.args.self.now c.self.inside.left c.self.inside.right c.self.inside.before c.self.inside.after c.self.view_is c.if-self-eq0.true (omega (arith, c.if-len-eq0.true)) in
    left_digits c.args.base 0 c.self.inside.right [] c.self.inside.after c.args.self.now view c.requires.digits

pub returns-then-i-len : goal.returns-then-i-len
returns-then-i-len c =
    let view = right_alone c.args.self.now c.self.inside.left c.self.inside.right c.self.inside.before c.self.inside.after c.self.view_is c.if-self-eq0.true (omega (arith, c.if-len-eq0.true)) in
    c.prefix_number.ensures ∙ ap (number_from_digits c.args.base) (left_prefix c.args.self.now (take c.args.i c.self.inside.right) c.self.inside.right [] c.args.i 0 c.self.inside.after view refl (omega (arith, c.if-i-len.true)) refl)
