use Rattle.std.proofs.Common.{arith, rules}
use Rattle.fixed_write.proofs.PaddedLemmas.{twenty_of, long_appended}
use Rattle.fixed_write.proofs.printer.push_long_fraction.Goals as goal

pub overflow_mul-number : goal.overflow_mul-number
overflow_mul-number g c =
    let t = twenty_of c.args.fraction.number c.args.fraction.digit c.args.fraction.places c.power_of_ten-scale.result c.requires.places c.requires.fits c.requires.digit c.power_of_ten-scale.ensures in
    record { fits = t.scaled }

pub overflow_add-number : goal.overflow_add-number
overflow_add-number g c =
    let t = twenty_of c.args.fraction.number c.args.fraction.digit c.args.fraction.places c.power_of_ten-scale.result c.requires.places c.requires.fits c.requires.digit c.power_of_ten-scale.ensures in
    record { fits = omega (arith, t.nineteen) }

pub push_long_reduced-requires : goal.push_long_reduced-requires
push_long_reduced-requires g c =
    let t = twenty_of c.args.fraction.number c.args.fraction.digit c.args.fraction.places c.power_of_ten-scale.result c.requires.places c.requires.fits c.requires.digit c.power_of_ten-scale.ensures in
    (search rules, (omega (arith, t.nineteen), (t.low, c.requires.room)))

pub returns : goal.returns
returns g c =
    let t = twenty_of c.args.fraction.number c.args.fraction.digit c.args.fraction.places c.power_of_ten-scale.result c.requires.places c.requires.fits c.requires.digit c.power_of_ten-scale.ensures in
    long_appended _ _ _ _ _ _ _ c.requires.places c.power_of_ten-scale.ensures t.value c.push_long_reduced.ensures
