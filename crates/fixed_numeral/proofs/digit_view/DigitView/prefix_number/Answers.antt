use Rattle.std.proofs.Common.{◌∙◌, take, refl, ap, arith}
use Rattle.std.specs.Int.Digits.{number_from_digits}
use Rattle.fixed_numeral.proofs.ViewLemmas.{left_prefix}
use Rattle.fixed_numeral.proofs.NumberLemmas.{left_digits}
use Rattle.fixed_numeral.proofs.digit_view.DigitView.prefix_number.Goals as goal

pub prefix_number-requires-clause-digits : goal.prefix_number-requires-clause-digits
prefix_number-requires-clause-digits c = left_digits c.args.base c.self.inside.before c.self.inside.left c.self.inside.right c.self.inside.after c.args.self.now c.self.view_is c.requires.digits

pub returns-then-i-len : goal.returns-then-i-len
returns-then-i-len c = c.prefix_number.ensures ∙ ap (number_from_digits c.args.base) (left_prefix c.args.self.now (take c.args.i c.self.inside.left) c.self.inside.left c.self.inside.right c.args.i c.self.inside.before c.self.inside.after c.self.view_is c.if-self-eq0.true (omega (arith, c.if-i-len.true)) refl)
