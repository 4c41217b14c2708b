use Rattle.std.proofs.Common.{◌≡◌, pos, arith}
use Rattle.std.proofs.lemmas.Grind.{common_steps}
use Rattle.fixed_fit.proofs.short.flat_decimal.Goals as goal

pub returns-clause-flat : goal.returns-clause-flat
returns-clause-flat c =
    let exponent : c.args.found.exponent ≡ pos 0 = grind (arith, common_steps, c.if-found-ne0.false) in
    record {
      exponent = exponent;
      parts = rw (c.from.ensures, c.from-2.ensures, c.from-3.ensures) (omega (arith, c.fraction_parts.ensures.parts));
    }
