use Rattle.std.proofs.Common.{◌∙◌, ap}
use Rattle.fixed_read.proofs.ReadLemmas.{read_as}
use Rattle.fixed_read.proofs.read.wrapping_from_str_radix_mode.Goals as goal

pub returns-in-Ok : goal.returns-in-Ok
returns-in-Ok g c =
    record {
      reading = read_as c.args.radix c.args.s.now _ _ c.in-Ok.found _ c.in-Ok.ensures.reading (λ p reading. record {
        number = reading.number;
        read = rw (ap (λ x. x.frac) c.in-Ok.ensures.format ∙ c.format_of.ensures.frac) at reading.read;
        image = c.wrapped.ensures reading.number reading.holds;
      });
    }
