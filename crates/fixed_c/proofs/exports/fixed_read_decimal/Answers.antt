use Rattle.fixed_c.specs.Decimals.{DecimalIsRefused, IsDecimalRead}
use Rattle.fixed_c.specs.Floats.{NamesBoth}
use Rattle.fixed_c.specs.declared.number.FixedNumber.{FixedNumber}
use Rattle.fixed_c.proofs.EndLemmas.{handed}
use Rattle.fixed_c.proofs.exports.fixed_read_decimal.Goals as goal

pub returns : goal.returns
returns c =
    handed c.decimal_read.result (λ (n : FixedNumber). NamesBoth c.args.policy c.args.mode (IsDecimalRead c.args.text.now c.args.places n)) (DecimalIsRefused c.args.text.now c.args.places c.args.policy c.args.mode) c.args.out.now c.hand_over.new.out c.hand_over.result (rw c.given_text.ensures at c.decimal_read.ensures) c.hand_over.ensures
