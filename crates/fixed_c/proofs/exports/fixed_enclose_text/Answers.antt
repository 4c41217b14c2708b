use Rattle.fixed_c.specs.Enclose.{EncloseIsRefused, IsEnclosedBy}
use Rattle.fixed_c.specs.Numbers.{format_of}
use Rattle.fixed_c.specs.declared.number.FixedEnclosure.{FixedEnclosure}
use Rattle.fixed_c.proofs.EndLemmas.{handed}
use Rattle.fixed_c.proofs.exports.fixed_enclose_text.Goals as goal

pub returns : goal.returns
returns c =
    handed c.ends_around.result (λ (n : FixedEnclosure). IsEnclosedBy c.args.text.now c.args.radix (format_of c.args.format.is_signed c.args.format.width c.args.format.frac) n.lo n.hi) (EncloseIsRefused c.args.text.now c.args.radix (format_of c.args.format.is_signed c.args.format.width c.args.format.frac)) c.args.out.now c.hand_over.new.out c.hand_over.result (rw c.given_text.ensures at c.ends_around.ensures) c.hand_over.ensures
