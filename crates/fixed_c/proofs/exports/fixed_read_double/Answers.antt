use Rattle.std.specs.Float.{binary64}
use Rattle.std.specs.Prelude.{to_bits}
use Rattle.fixed_float.specs.declared.layout.FloatLayout.TheVariants.{Binary64}
use Rattle.fixed_c.specs.Floats.{FloatIsRefused, IsFloatRead, NamesBoth}
use Rattle.fixed_c.specs.Numbers.{format_of}
use Rattle.fixed_c.specs.declared.number.FixedNumber.{FixedNumber}
use Rattle.fixed_c.proofs.EndLemmas.{handed}
use Rattle.fixed_c.proofs.exports.fixed_read_double.Goals as goal

pub returns : goal.returns
returns c =
    handed c.double_read.result (λ (n : FixedNumber). NamesBoth c.args.policy c.args.mode (IsFloatRead Binary64 (to_bits binary64 c.args.value) (format_of c.args.format.is_signed c.args.format.width c.args.format.frac) n)) (FloatIsRefused Binary64 (to_bits binary64 c.args.value) (format_of c.args.format.is_signed c.args.format.width c.args.format.frac) c.args.policy c.args.mode) c.args.out.now c.hand_over.new.out c.hand_over.result (rw c.f64_to_bits_with_nan-bits.ensures at c.double_read.ensures) c.hand_over.ensures
