use Rattle.std.proofs.Common.{◌^◌, arith}
use Rattle.fixed_numeral.specs.declared.radix.Radix.TheVariants.{Dec}
use Rattle.fixed_error.specs.Errors.{parts}
use Rattle.fixed_error.proofs.RestLemmas.{parts_most}
use Rattle.fixed_error.proofs.ShortLemmas.{parts_are, parts_fit, unit_parts}
use Rattle.fixed_error.proofs.rest.parts_of_decimal.Goals as goal

pub overflow_mul-result-2 : goal.overflow_mul-result-2
overflow_mul-result-2 c =
    let found = c.args.found in
    omega (arith, parts_most Dec, parts_fit found.fraction c.parts_of_place.result (10 ^ found.places) (parts Dec) c.requires.below c.parts_of_place.ensures)

pub returns-clause-one : goal.returns-clause-one
returns-clause-one c = unit_parts c.power_of-unit.result c.power_of-unit.ensures.value

pub returns-clause-parts : goal.returns-clause-parts
returns-clause-parts c = parts_are c.args.found.fraction c.parts_of_place.result (10 ^ c.args.found.places) (parts Dec) c.parts_of_place.ensures
