use Rattle.std.proofs.Common.{◌≡◌, ◌∙◌, ap}
use Rattle.fixed_read.proofs.ReadLemmas.{read_as}
use Rattle.fixed_read.proofs.read.overflowing_from_str_radix_mode_counted.Goals as goal

pub returns-in-Ok-clause-reading : goal.returns-in-Ok-clause-reading
returns-in-Ok-clause-reading g c =
    let frac : c.in-Ok.found.format.frac ≡ c.args.frac_nbits = ap (λ x. x.frac) c.in-Ok.ensures.format ∙ c.format_of.ensures.frac in
    let signed : c.in-Ok.found.format.signed ≡ g.I.Inner.SIGNED = ap (λ x. x.signed) c.in-Ok.ensures.format ∙ c.format_of.ensures.signed in
    let width : c.in-Ok.found.format.width ≡ g.I.Inner.BITS = ap (λ x. x.width) c.in-Ok.ensures.format ∙ c.format_of.ensures.width in
    read_as c.args.radix c.args.s.now _ _ c.in-Ok.found _ c.in-Ok.ensures.reading (λ p reading. record {
      number = reading.number;
      read = rw frac at reading.read;
      image = c.wrapped.ensures reading.number reading.holds;
      flag = rw (signed, width) at (c.is_out_of_range.ensures.range reading.number reading.holds);
    })
