use Rattle.std.proofs.Common.{refl, arith}
use Rattle.fixed_error.proofs.ErrorsLemmas.{no_kept}
use Rattle.fixed_error.proofs.errors.no_error.Goals as goal

pub returns : goal.returns
returns c = record {
  is_greatest = record { radix = c.new.ensures.radix; frac = c.new.ensures.frac; mode = c.new.ensures.mode; greatest = c.new.ensures.none };
  none = λ _. refl;
  least = λ some. absurd (no_kept c.new.result.mode c.new.result.radix c.new.result.frac c.new.result.is_some c.new.result.place c.new.result.numeral.items some c.new.ensures.none.kept);
  bound = λ some. absurd (omega (arith, some));
}
