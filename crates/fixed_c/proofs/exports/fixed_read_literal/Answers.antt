use Rattle.fixed_c.specs.Literal.{IsLiteralReadAs, LiteralIsRefused}
use Rattle.fixed_c.specs.Numbers.{format_of}
use Rattle.fixed_c.specs.declared.number.FixedNumber.{FixedNumber}
use Rattle.fixed_c.proofs.EndLemmas.{handed}
use Rattle.fixed_c.proofs.exports.fixed_read_literal.Goals as goal

pub returns : goal.returns
returns c =
    handed c.literal.result (λ (n : FixedNumber). IsLiteralReadAs c.args.text.now (format_of c.args.format.is_signed c.args.format.width c.args.format.frac) c.args.policy n.bits n.overflowed) (LiteralIsRefused c.args.text.now (format_of c.args.format.is_signed c.args.format.width c.args.format.frac) c.args.policy) c.args.out.now c.hand_over.new.out c.hand_over.result (rw c.given_text.ensures at c.literal.ensures) c.hand_over.ensures
