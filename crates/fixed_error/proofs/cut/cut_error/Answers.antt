use Rattle.std.proofs.Common.{◌≡◌, pos, rules, arith}
use Rattle.fixed_error.specs.Short.{IsShortRead}
use Rattle.fixed_error.proofs.CutLemmas.{short_error, signed_small}
use Rattle.fixed_error.proofs.cut.cut_error.Goals as goal

pub returns-then-found-le18-clause-cut : goal.returns-then-found-le18-clause-cut
returns-then-found-le18-clause-cut g c = λ mode h.
    let found = c.in-Some.found in
    let short : IsShortRead c.args.radix c.args.numeral.now found = rw c.in-Some.is at c.requires.short in
    let flat : found.exponent ≡ pos 0 = search rules in
    short_error mode c.args.radix c.args.frac c.args.numeral.now found c.args.ulps c.word_of_decimal.result c.word_error-over.result.0 c.word_error-over.result.1 c.signed_cut.result
    short flat c.word_of_decimal.ensures.parts c.word_error-over.ensures.error c.signed_cut.ensures.signed h

pub returns-then-found-le18-clause-small : goal.returns-then-found-le18-clause-small
returns-then-found-le18-clause-small g c =
    let sum = signed_small _ _ _ c.signed_cut.result c.signed_cut.ensures.signed in
    omega (arith, sum, c.word_error-over.ensures.small)
