use Rattle.std.proofs.Common.{◌∙◌, ℕ, ap, rules}
use Rattle.fixed_bits.specs.Formats.{FormatParts}
use Rattle.fixed_fit.proofs.NumeralLemmas.{below_zero_by}
use Rattle.fixed_fit.proofs.numeral.is_below_zero.Goals as goal

abbrev frac_of : FormatParts → ℕ
frac_of f = f.frac

pub returns-in-Ok : goal.returns-in-Ok
returns-in-Ok g c = record {
  numeral = c.in-Ok.ensures.reading.numeral;
  read = λ p h. below_zero_by c.args.radix p c.in-Ok.found c.is_below.result (ap frac_of c.in-Ok.ensures.format ∙ c.of.ensures.frac) (c.in-Ok.ensures.reading.read p h) c.is_below.ensures;
  cause = search rules;
}
