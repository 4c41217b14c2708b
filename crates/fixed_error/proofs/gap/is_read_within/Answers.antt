use Rattle.std.proofs.Common.{◌≡◌, ◌∙◌, ℕ, ap, refl, false, true, arith}
use Rattle.fixed_bits.specs.Formats.{FormatParts}
use Rattle.fixed_error.proofs.GapLemmas.{within_by}
use Rattle.fixed_error.proofs.gap.is_read_within.Goals as goal

abbrev frac_of : FormatParts → ℕ
frac_of f = f.frac

pub returns-in-Ok-clause-within : goal.returns-in-Ok-clause-within
returns-in-Ok-clause-within g c =
    rw c.has_high_bits.ensures (within_by c.args.mode c.args.radix c.args.frac c.args.text.now c.in-Ok.found (ap frac_of c.in-Ok.ensures.format ∙ c.of.ensures.frac) (omega (arith, c.magnitude-low.ensures, c.magnitude-low.type_inv)) (c.in-Ok.ensures.reading.numeral.0 refl) c.in-Ok.ensures.reading.read)

pub returns-in-Err-clause-within : goal.returns-in-Err-clause-within
returns-in-Err-clause-within g c = ((λ no. let clash : false ≡ true = no in cc), (λ w. c.in-Err.ensures.reading.numeral.1 (w.parts, w.numeral)))
