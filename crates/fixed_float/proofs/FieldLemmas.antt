-- A reading of the fields of a float is a reading of the float.
use Rattle.std.proofs.Common.{◌≡◌, ℕ, ◌*◌, ◌^◌, ◌↔◌, IsTrue, Bool, refl, ap, subst, ◌∙◌}
use Rattle.fixed_bits.specs.Numbers.{with_sign}
use Rattle.fixed_bits.specs.Rounded.{IsRounded}
use Rattle.fixed_bits.specs.declared.mode.ReadMode.{ReadMode}
use Rattle.fixed_float.specs.Floats.{IsFloatReading, magnitude, scale, significand, unit_scale}
use Rattle.fixed_float.specs.Inner.Fields.{AreFields, IsScaledReading}
use Rattle.fixed_float.specs.declared.layout.FloatFields.{FloatFields}
use Rattle.fixed_float.specs.declared.layout.FloatLayout.{FloatLayout}
use Rattle.fixed_read.specs.Reading.{IsMultipleOf}
use Rattle.fixed_read.specs.declared.read_number.ReadNumber.{ReadNumber}

pub reading_from : (mode : ReadMode) (layout : FloatLayout) (bits unit : ℕ) (fields : FloatFields) (found : ReadNumber) → unit ≡ unit_scale layout → AreFields layout bits fields → IsScaledReading mode fields unit found → IsFloatReading mode layout bits found
unfolding magnitude
reading_from mode layout bits unit fields found u a r =
    let num : fields.significand * 2 ^ fields.scale ≡ significand layout bits * 2 ^ scale layout bits = rw (a.significand_is, a.scale_is) refl in
    let frac = found.format.frac in
    let rounded : IsRounded mode fields.negative (significand layout bits * 2 ^ scale layout bits * 2 ^ frac) (2 ^ unit_scale layout) r.ulps =
    subst (λ (k : ℕ). IsRounded mode fields.negative (significand layout bits * 2 ^ scale layout bits * 2 ^ frac) (2 ^ k) r.ulps) u
    (subst (λ (n : ℕ). IsRounded mode fields.negative (n * 2 ^ frac) (2 ^ unit) r.ulps) num r.rounded) in
    let exact : IsTrue found.exact ↔ IsMultipleOf (2 ^ unit_scale layout) (significand layout bits * 2 ^ scale layout bits * 2 ^ frac) =
    subst (λ (k : ℕ). IsTrue found.exact ↔ IsMultipleOf (2 ^ k) (significand layout bits * 2 ^ scale layout bits * 2 ^ frac)) u
    (subst (λ (n : ℕ). IsTrue found.exact ↔ IsMultipleOf (2 ^ unit) (n * 2 ^ frac)) num r.exact) in
    record {
      number = with_sign fields.negative r.ulps;
      read = record { ulps = r.ulps; rounded = subst (λ (s : Bool). IsRounded mode s (significand layout bits * 2 ^ scale layout bits * 2 ^ frac) (2 ^ unit_scale layout) r.ulps) a.sign_is rounded; value = ap (λ s. with_sign s r.ulps) a.sign_is };
      holds = r.holds;
      sign = r.sign ∙ a.sign_is;
      exact = exact;
    }
