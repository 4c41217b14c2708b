use Rattle.fixed_c.proofs.MoneyLemmas.{decimal_answered, decimal_unnamed}
use Rattle.fixed_c.proofs.decimals.decimal_read.Goals as goal

pub returns-in-Ok : goal.returns-in-Ok
returns-in-Ok c = decimal_answered c.args.text.now c.args.places c.args.policy c.args.mode c.in-Ok.asked c.in-Ok.ensures c.read_decimal.result c.read_decimal.ensures

pub returns-in-Err : goal.returns-in-Err
returns-in-Err c = decimal_unnamed c.args.text.now c.args.places c.args.policy c.args.mode c.in-Err.refusal c.in-Err.ensures
