-- Floats whose numbers are in every policy's range, and so are their own images.
use Rattle.std.proofs.Common.{ℕ, ℤ, false, refl, Option, Some, None}
use Rattle.std.specs.Prelude.{IfSome}
use Rattle.std.proofs.lemmas.Bool.{false≢true}
use Rattle.fixed_bits.proofs.Public.{images_agree, policy_range_decided}
use Rattle.fixed_bits.specs.Numbers.{with_sign}
use Rattle.fixed_float.specs.Short.{IsShortReading}
use Rattle.fixed_float.specs.declared.layout.FloatLayout.{FloatLayout}
use Rattle.fixed_float.specs.declared.short.ShortNumber.{ShortNumber}
use Rattle.fixed_c.specs.Inner.Floats.{IsFloatReadAsAsked}
use Rattle.fixed_c.specs.Inner.KeptRange.{IsKeptOf}
use Rattle.fixed_c.specs.declared.floats.FloatAsked.{FloatAsked}

pub kept_read : (layout : FloatLayout) (float : ℕ) (asked : FloatAsked) (bits : ℤ) (found : Option ShortNumber) → IfSome found (IsShortReading asked.mode layout float asked.format.frac)
    → IsKeptOf asked.format found bits → IsFloatReadAsAsked layout float asked (record { bits = bits; overflowed = 0 })
kept_read layout float asked bits None reading kept = absurd kept
kept_read layout float asked bits (Some number) reading kept = record {
  format = kept.kept.format;
  finite = reading.finite;
  number = with_sign number.negative number.magnitude;
  read = reading.read;
  brought = record {
    image = with_sign number.negative number.magnitude;
    image_is = (images_agree asked.policy asked.format.signed asked.format.width (with_sign number.negative number.magnitude) (with_sign number.negative number.magnitude) kept.kept.format.is_width (kept.kept.in_range asked.policy)).1 refl;
    bits_are = kept.bits_are;
    overflowed = false;
    flag_is = refl;
    overflowed_is = (λ t. absurd (false≢true t), λ out. absurd ((policy_range_decided asked.policy asked.format.signed asked.format.width (with_sign number.negative number.magnitude)).1 out (kept.kept.in_range asked.policy)));
  };
}
