use Rattle.std.proofs.Common.{◌≡◌, ◌∙◌, ◌+◌, ◌*◌, ◌^◌, ◌<◌, ap, sym, arith, rules, ℕ}
use Rattle.fixed_bits.specs.Formats.{FormatParts}
use Rattle.fixed_least.proofs.ExactLemmas.{inexact, long_value, outside, short_value}
use Rattle.fixed_least.proofs.exact.exact_of.Goals as goal

abbrev frac_of : FormatParts → ℕ
frac_of f = f.frac

pub returns-then-not-is_exact : goal.returns-then-not-is_exact
returns-then-not-is_exact g c =
    record { exact = record { numeral = c.in-Ok.ensures.reading.numeral; read = λ p h. inexact c.args.radix p c.in-Ok.fine (ap frac_of (c.in-Ok.ensures.format ∙ c.long_format.ensures)) (c.in-Ok.ensures.reading.read p h) (sym c.is_exact.ensures ∙ c.if-not-is_exact.true); cause = search rules } }

pub returns-then-not-has_high_bits : goal.returns-then-not-has_high_bits
returns-then-not-has_high_bits g c =
    record { exact = record { numeral = c.in-Ok.ensures.reading.numeral; read = λ p h. short_value c.args.radix p c.in-Ok.fine _ (ap frac_of (c.in-Ok.ensures.format ∙ c.long_format.ensures)) (c.in-Ok.ensures.reading.read p h) (sym c.is_exact.ensures ∙ c.if-not-is_exact.false) (sym c.has_high_bits.ensures ∙ c.if-not-has_high_bits.true) c.is_negative-negative.ensures c.magnitude-fraction.ensures; cause = search rules } }

pub returns-then-has_high_bits : goal.returns-then-has_high_bits
returns-then-has_high_bits g c =
    let small : c.in-Ok.fine.low < 2 ^ 64 = omega (arith, c.magnitude-fraction.type_inv, c.magnitude-fraction.ensures) in
    record { exact = record { numeral = c.in-Ok.ensures.reading.numeral; read = λ p h. outside c.args.radix p c.in-Ok.fine c.in-Ok-read_format.coarse (ap frac_of (c.in-Ok.ensures.format ∙ c.long_format.ensures)) (c.in-Ok.ensures.reading.read p h) (sym c.is_exact.ensures ∙ c.if-not-is_exact.false) small (ap frac_of (c.in-Ok-read_format.ensures.format ∙ c.long_format-2.ensures)) (c.in-Ok-read_format.ensures.reading.read p h) (sym c.has_high_bits-2.ensures ∙ c.if-has_high_bits.true); cause = search rules } }

pub returns : goal.returns
returns g c =
    let small : c.in-Ok.fine.low < 2 ^ 64 = omega (arith, c.magnitude-fraction.type_inv, c.magnitude-fraction.ensures) in
    let ulps : c.ulps_of-ulps.result ≡ c.in-Ok-read_format.coarse.low * 2 ^ 64 + c.in-Ok.fine.low = rw (← c.magnitude.ensures, ← c.magnitude-fraction.ensures) c.ulps_of-ulps.ensures in
    record { exact = record { numeral = c.in-Ok.ensures.reading.numeral; read = λ p h. long_value c.args.radix p c.in-Ok.fine c.in-Ok-read_format.coarse _ (ap frac_of (c.in-Ok.ensures.format ∙ c.long_format.ensures)) (c.in-Ok.ensures.reading.read p h) (sym c.is_exact.ensures ∙ c.if-not-is_exact.false) small (ap frac_of (c.in-Ok-read_format.ensures.format ∙ c.long_format-2.ensures)) (c.in-Ok-read_format.ensures.reading.read p h) (sym c.has_high_bits-2.ensures ∙ c.if-has_high_bits.false) c.is_negative-negative.ensures ulps; cause = search rules } }
