use Rattle.fixed_bits.specs.declared.mode.ReadMode.TheVariants.{NearestEven}
use Rattle.fixed_numeral.specs.PartNumbers.{IsShortNumeral}
use Rattle.fixed_read.specs.Reading.{IsReading}
use Rattle.fixed_read.proofs.ReadLemmas.{literal_read}
use Rattle.fixed_read.proofs.read_number.read_short_literal.Goals as goal

pub returns-in-Some-clause-reading : goal.returns-in-Some-clause-reading
returns-in-Some-clause-reading g c =
    let found = c.in-Some.found in
    literal_read (IsReading NearestEven) (λ p. IsShortNumeral c.in-Some.radix p found.negative found.whole found.fraction found.places found.exponent found.scales_by_two) c.signed.result c.args.format.signed c.args.s.now c.in-Some.radix c.number_of_short.result c.signed.ensures c.in-Some.ensures.radix c.in-Some.ensures.parts c.number_of_short.ensures.reading
