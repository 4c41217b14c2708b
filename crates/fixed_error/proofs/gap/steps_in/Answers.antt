use Rattle.std.proofs.Common.{◌∙◌, ℕ, ap, sym}
use Rattle.fixed_bits.specs.Formats.{FormatParts}
use Rattle.fixed_error.proofs.GapLemmas.{steps_read}
use Rattle.fixed_error.proofs.gap.steps_in.Goals as goal

abbrev frac_of : FormatParts → ℕ
frac_of f = f.frac

pub returns-in-Ok-clause-rounded : goal.returns-in-Ok-clause-rounded
returns-in-Ok-clause-rounded g c = λ w. record {
  parts = w.parts;
  numeral = w.numeral;
  number = w.number;
  read = w.read;
  steps_are = steps_read c.args.mode c.args.radix w.parts c.args.frac c.in-Ok.found w.number (ap frac_of c.in-Ok.ensures.format ∙ c.of.ensures.frac) (c.in-Ok.ensures.reading.read w.parts w.numeral) w.read w.within ∙ sym c.magnitude.ensures;
}
