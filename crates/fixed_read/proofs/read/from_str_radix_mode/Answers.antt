use Rattle.std.proofs.Common.{◌≡◌, ◌∙◌, ap, refl, IsOk}
use Rattle.fixed_numeral.specs.Cause.{HasCause}
use Rattle.fixed_numeral.specs.Numeral.{HasNumeral}
use Rattle.fixed_numeral.specs.declared.error.ParseErrorKind.TheVariants.{Overflow}
use Rattle.fixed_read.specs.Reading.{IsReadOutOfRange}
use Rattle.fixed_read.proofs.ReadLemmas.{range_iff, number_is, not_out, out_is, if_ok, overflow_if, cause_if}
use Rattle.fixed_read.proofs.read.from_str_radix_mode.Goals as goal

pub in_range-requires : goal.in_range-requires
in_range-requires g c = record { signed = ap (λ x. x.signed) c.in-Ok.ensures.format ∙ c.format_of.ensures.signed; width = ap (λ x. x.width) c.in-Ok.ensures.format ∙ c.format_of.ensures.width }

pub returns-in-Ok : goal.returns-in-Ok
returns-in-Ok g c =
    let frac : c.in-Ok.found.format.frac ≡ c.args.frac_nbits = ap (λ x. x.frac) c.in-Ok.ensures.format ∙ c.format_of.ensures.frac in
    record {
      fits = range_iff c.args.mode c.args.radix (HasNumeral c.args.radix c.args.s.now) c.args.frac_nbits g.I.Inner.SIGNED g.I.Inner.BITS c.in-Ok.found frac c.in-Ok.ensures.reading.read (IsOk c.in_range.result) (c.in-Ok.ensures.reading.numeral.0 refl) c.in_range.ensures.fits;
      number = if_ok _ _ c.in_range.result (λ x same. number_is c.args.mode c.args.radix (HasNumeral c.args.radix c.args.s.now) c.args.frac_nbits g.I.Inner.SIGNED g.I.Inner.BITS c.in-Ok.found frac c.in-Ok.ensures.reading.read (g.I.Inner.number x) same) c.in_range.ensures.number;
      overflow = overflow_if Overflow (IsReadOutOfRange c.args.mode c.args.radix (HasNumeral c.args.radix c.args.s.now) c.args.frac_nbits g.I.Inner.SIGNED g.I.Inner.BITS) c.in_range.result (λ ok out. not_out c.args.mode c.args.radix (HasNumeral c.args.radix c.args.s.now) c.args.frac_nbits g.I.Inner.SIGNED g.I.Inner.BITS c.in-Ok.found frac c.in-Ok.ensures.reading.read (λ v h. (c.in_range.ensures.fits v h).0 ok) out) c.in_range.ensures.overflow;
      cause = cause_if Overflow (HasCause c.args.radix c.args.s.now) (IsReadOutOfRange c.args.mode c.args.radix (HasNumeral c.args.radix c.args.s.now) c.args.frac_nbits g.I.Inner.SIGNED g.I.Inner.BITS) c.in_range.result (λ no. out_is c.args.mode c.args.radix (HasNumeral c.args.radix c.args.s.now) c.args.frac_nbits g.I.Inner.SIGNED g.I.Inner.BITS c.in-Ok.found frac c.in-Ok.ensures.reading.read (c.in-Ok.ensures.reading.numeral.0 refl) (λ v h i. no ((c.in_range.ensures.fits v h).1 i))) c.in_range.ensures.overflow;
    }
