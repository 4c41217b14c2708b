use Rattle.fixed_c.specs.Numbers.{format_of}
use Rattle.fixed_c.proofs.AskedLemmas.{answered, unnamed}
use Rattle.fixed_c.proofs.numbers.read.Goals as goal

pub returns-in-Ok : goal.returns-in-Ok
returns-in-Ok c =
    answered c.args.text.now c.args.radix (format_of c.args.format.is_signed c.args.format.width c.args.format.frac) c.args.policy c.args.mode c.in-Ok.asked c.in-Ok.ensures c.read_from.result c.read_from.ensures

pub returns-in-Err : goal.returns-in-Err
returns-in-Err c =
    unnamed c.args.text.now c.args.radix (format_of c.args.format.is_signed c.args.format.width c.args.format.frac) c.args.policy c.args.mode c.in-Err.refusal c.in-Err.ensures
