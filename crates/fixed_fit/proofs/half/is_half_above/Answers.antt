use Rattle.std.proofs.Common.{◌∙◌, ℕ, ap, sym}
use Rattle.std.proofs.lemmas.Bool.{false≢true}
use Rattle.fixed_bits.specs.Formats.{FormatParts}
use Rattle.fixed_fit.proofs.HalfBoundLemmas.{itself_above, itself_within, many_within, read_within, zero_above}
use Rattle.fixed_fit.proofs.half.is_half_above.Goals as goal

abbrev frac_of : FormatParts → ℕ
frac_of f = f.frac

pub returns-then-not-is_no_ulp-clause-within : goal.returns-then-not-is_no_ulp-clause-within
returns-then-not-is_no_ulp-clause-within g c = λ _.
    let p = c.requires.numeral in
    many_within c.args.radix c.args.frac c.args.bound.now p.0 c.in-Ok.found p.1 (ap frac_of c.in-Ok.ensures.format ∙ c.of.ensures.frac) (c.in-Ok.ensures.reading.read p.0 p.1)
    (λ none. false≢true (sym c.if-not-is_no_ulp.true ∙ c.is_no_ulp.ensures.1 none))

pub returns-then-is_exact-clause-above : goal.returns-then-is_exact-clause-above
returns-then-is_exact-clause-above g c = λ _.
    let p = c.requires.numeral in
    zero_above c.args.radix c.args.frac c.args.bound.now p.0 c.in-Ok.found p.1 (ap frac_of c.in-Ok.ensures.format ∙ c.of.ensures.frac) (c.in-Ok.ensures.reading.read p.0 p.1)
    (c.is_no_ulp.ensures.0 c.if-not-is_no_ulp.false) (sym c.is_exact.ensures ∙ c.if-is_exact.true)

pub is_error_above-requires-clause-within : goal.is_error_above-requires-clause-within
is_error_above-requires-clause-within g c =
    let p = c.requires.numeral in
    read_within c.args.radix c.args.frac c.args.bound.now p.0 c.in-Ok.found c.away_from_zero-mode.result p.1 (ap frac_of c.in-Ok.ensures.format ∙ c.of.ensures.frac) (c.in-Ok.ensures.reading.read p.0 p.1)
    (c.is_no_ulp.ensures.0 c.if-not-is_no_ulp.false) (sym c.is_exact.ensures ∙ c.if-is_exact.false) (λ e. c.away_from_zero-mode.ensures.below (c.is_negative.ensures ∙ e)) (λ e. c.away_from_zero-mode.ensures.above (c.is_negative.ensures ∙ e))

pub returns-clause-above : goal.returns-clause-above
returns-clause-above g c = λ is.
    let p = c.requires.numeral in
    itself_above c.args.radix c.args.frac c.args.bound.now p.0 c.in-Ok.found c.away_from_zero-mode.result p.1 (ap frac_of c.in-Ok.ensures.format ∙ c.of.ensures.frac) (c.in-Ok.ensures.reading.read p.0 p.1)
    (c.is_no_ulp.ensures.0 c.if-not-is_no_ulp.false) (sym c.is_exact.ensures ∙ c.if-is_exact.false) (λ e. c.away_from_zero-mode.ensures.below (c.is_negative.ensures ∙ e)) (λ e. c.away_from_zero-mode.ensures.above (c.is_negative.ensures ∙ e)) (c.is_error_above.ensures.above is)

pub returns-clause-within : goal.returns-clause-within
returns-clause-within g c = λ is.
    let p = c.requires.numeral in
    itself_within c.args.radix c.args.frac c.args.bound.now p.0 c.in-Ok.found c.away_from_zero-mode.result p.1 (ap frac_of c.in-Ok.ensures.format ∙ c.of.ensures.frac) (c.in-Ok.ensures.reading.read p.0 p.1)
    (c.is_no_ulp.ensures.0 c.if-not-is_no_ulp.false) (sym c.is_exact.ensures ∙ c.if-is_exact.false) (λ e. c.away_from_zero-mode.ensures.below (c.is_negative.ensures ∙ e)) (λ e. c.away_from_zero-mode.ensures.above (c.is_negative.ensures ∙ e)) (c.is_error_above.ensures.not is)
