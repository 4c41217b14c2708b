use Rattle.std.proofs.Common.{◌+◌, length, sym, ◌∙◌, arith}
use Rattle.fixed_numeral.proofs.SegmentLemmas.{exponent_at, sign_place}
use Rattle.fixed_numeral.proofs.exponent.exponent_at.Goals as goal

pub decimals_to-requires-clause-few : goal.decimals_to-requires-clause-few
decimals_to-requires-clause-few c = omega (arith, c.requires.late, sign_place c.args.text.now (c.args.from + 1) c.sign_at-negative.result.1 c.sign_at-negative.result.0 (omega arith) c.sign_at-negative.ensures)

pub returns : goal.returns
returns c = exponent_at c.args.radix c.args.text.now c.args.from c.sign_at-negative.result.1 (length c.args.text.now) c.in_ok-number.number c.sign_at-negative.result.0 _ _ (omega arith) (sym c.is_separator.ensures ∙ c.if-not-is_separator.false) c.sign_at-negative.ensures c.in_ok-number.ensures (omega arith) (omega arith) (omega arith) c.signed_exponent.ensures c.is_two_separator.ensures
