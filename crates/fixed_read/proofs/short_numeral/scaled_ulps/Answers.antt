use Rattle.std.proofs.Common.{◌+◌, ◌*◌, ◌^◌, arith, pos, ◌-ℤ◌}
use Rattle.std.proofs.Math.Nat.{one-le-pow}
use Rattle.fixed_numeral.specs.Value.{scaled}
use Rattle.fixed_read.proofs.ShortNumeralLemmas.{magnitude_same, scaled_den}
use Rattle.fixed_read.proofs.short_numeral.scaled_ulps.Goals as goal

pub returns-in-Some : goal.returns-in-Some
returns-in-Some c =
    let digits = c.args.found.whole * 10 ^ c.args.found.places + c.args.found.fraction in
    magnitude_same c.args.mode (record { num = c.in-Some.decimal.whole * 10 ^ c.in-Some.decimal.places + c.in-Some.decimal.fraction; den = 10 ^ c.in-Some.decimal.places }) (scaled digits 1 10 (c.args.found.exponent -ℤ pos c.args.found.places)) c.args.frac c.ulps_of_decimal.result (one-le-pow c.in-Some.decimal.places 10 (omega arith)) (scaled_den digits (c.args.found.exponent -ℤ pos c.args.found.places)) c.in-Some.ensures c.ulps_of_decimal.ensures
