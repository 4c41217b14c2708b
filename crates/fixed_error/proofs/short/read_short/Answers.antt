use Rattle.std.proofs.Common.{◌≡◌, rules}
use Rattle.fixed_numeral.specs.declared.radix.Radix.TheVariants.{Dec}
use Rattle.fixed_error.proofs.short.read_short.Goals as goal

pub returns-clause-read : goal.returns-clause-read
returns-clause-read g c =
    let is : c.args.radix ≡ Dec = search rules in
    let found = c.in_ok-found.ensures in
    record { decimal = is; numeral = found.numeral; parts = found.parts; fraction = found.fraction; whole = found.whole; places = found.places }
