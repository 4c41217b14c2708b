use Rattle.fixed_c.specs.Arguments.{Names}
use Rattle.fixed_c.specs.Numbers.{format_of}
use Rattle.fixed_c.specs.Read.{IsReadAs, ReadIsRefused}
use Rattle.fixed_c.specs.declared.number.FixedNumber.{FixedNumber}
use Rattle.fixed_c.proofs.EndLemmas.{handed}
use Rattle.fixed_c.proofs.exports.fixed_read_text.Goals as goal

pub returns : goal.returns
returns c =
    handed c.read.result (λ (n : FixedNumber). Names c.args.radix c.args.policy c.args.mode (IsReadAs c.args.text.now (format_of c.args.format.is_signed c.args.format.width c.args.format.frac) n.bits n.overflowed)) (ReadIsRefused c.args.text.now c.args.radix (format_of c.args.format.is_signed c.args.format.width c.args.format.frac) c.args.policy c.args.mode) c.args.out.now c.hand_over.new.out c.hand_over.result (rw c.given_text.ensures at c.read.ensures) c.hand_over.ensures
