use Rattle.fixed_c.specs.Arguments.{Names}
use Rattle.fixed_c.specs.Numbers.{format_of}
use Rattle.fixed_c.specs.Respell.{IsReachedAs, RespellIsRefused}
use Rattle.fixed_c.specs.declared.number.FixedNumber.{FixedNumber}
use Rattle.fixed_c.proofs.EndLemmas.{handed}
use Rattle.fixed_c.proofs.exports.fixed_respell_text.Goals as goal

pub returns : goal.returns
returns c =
    handed c.respelled.result (λ (n : FixedNumber). Names c.args.radix c.args.policy c.args.mode (IsReachedAs c.args.text.now (format_of c.args.source.is_signed c.args.source.width c.args.source.frac) (format_of c.args.target.is_signed c.args.target.width c.args.target.frac) n.bits n.overflowed)) (RespellIsRefused c.args.text.now c.args.radix (format_of c.args.source.is_signed c.args.source.width c.args.source.frac) (format_of c.args.target.is_signed c.args.target.width c.args.target.frac) c.args.policy c.args.mode) c.args.out.now c.hand_over.new.out c.hand_over.result (rw c.given_text.ensures at c.respelled.ensures) c.hand_over.ensures
