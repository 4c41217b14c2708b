use Rattle.std.proofs.Common.{◌≡◌, rules}
use Rattle.fixed_bits.specs.Numbers.{with_sign}
use Rattle.fixed_write.proofs.AsciiLemmas.{shortest_text_ascii}
use Rattle.fixed_write.proofs.TextLemmas.{shortest_text_is}
use Rattle.fixed_write.proofs.printer.push_shortest.Goals as goal

pub returns-clause-appended : goal.returns-clause-appended
returns-clause-appended g c =
    let same : with_sign c.sign_and_magnitude-negative.result.0 c.sign_and_magnitude-negative.result.1 ≡ c.args.value = search (rules, c.sign_and_magnitude-negative.ensures.value) in
    rw same at c.push_signed_shortest.ensures.appended

pub returns-clause-shortest : goal.returns-clause-shortest
returns-clause-shortest g c = shortest_text_is c.args.value c.args.frac

pub returns-clause-short : goal.returns-clause-short
returns-clause-short g c =
    let same : with_sign c.sign_and_magnitude-negative.result.0 c.sign_and_magnitude-negative.result.1 ≡ c.args.value = search (rules, c.sign_and_magnitude-negative.ensures.value) in
    rw same at c.push_signed_shortest.ensures.short

pub returns-clause-ascii : goal.returns-clause-ascii
returns-clause-ascii g c = shortest_text_ascii c.args.value c.args.frac
