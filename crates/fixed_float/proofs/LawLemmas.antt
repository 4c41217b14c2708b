-- A float reads as just one number. A float that is exactly a number reads as that number.
use Rattle.std.proofs.Common.{◌≡◌, ℕ, ◌*◌, ◌^◌, ◌<◌, refl, sym, ap, subst, ◌∙◌, ℤ, unsigned_abs}
use Rattle.std.proofs.lemmas.Nat.{pow_pos}
use Rattle.fixed_bits.specs.Numbers.{with_sign}
use Rattle.fixed_bits.specs.declared.mode.ReadMode.{ReadMode}
use Rattle.fixed_bits.specs.Rounded.{IsRounded}
use Rattle.fixed_bits.proofs.Public.{rounded_exact, rounded_exists, rounded_unique, sign_and_magnitude}
use Rattle.fixed_float.specs.Floats.{IsReadFloat, is_negative, magnitude, unit_scale}
use Rattle.fixed_float.specs.Laws.{ExactIsReadBack, ReadFloatIsTheOne}
use Rattle.fixed_float.specs.declared.layout.FloatLayout.{FloatLayout}

pub den_some : (layout : FloatLayout) (bits : ℕ) → 0 < (magnitude layout bits).den
unfolding magnitude
den_some layout bits = pow_pos (unit_scale layout)

pub read_float_unique : (mode : ReadMode) (layout : FloatLayout) (bits f : ℕ) (v w : ℤ) → IsReadFloat mode layout bits f v → IsReadFloat mode layout bits f w → v ≡ w
read_float_unique mode layout bits f v w g h =
    g.value ∙ ap (with_sign (is_negative layout bits)) (rounded_unique mode (is_negative layout bits) ((magnitude layout bits).num * 2 ^ f) (magnitude layout bits).den g.ulps h.ulps (den_some layout bits) g.rounded h.rounded) ∙ sym h.value

pub read_float_is_the_one : ReadFloatIsTheOne
read_float_is_the_one mode layout bits f =
    let found = rounded_exists mode (is_negative layout bits) ((magnitude layout bits).num * 2 ^ f) (magnitude layout bits).den (den_some layout bits) in
    let read : IsReadFloat mode layout bits f (with_sign (is_negative layout bits) found.0) = record { ulps = found.0; rounded = found.1; value = refl } in
    (with_sign (is_negative layout bits) found.0, read, λ w h. read_float_unique mode layout bits f w (with_sign (is_negative layout bits) found.0) h read)

pub exact_is_read_back : ExactIsReadBack
exact_is_read_back mode layout b f bits e =
    let negative = is_negative layout bits in record {
      ulps = unsigned_abs b;
      rounded = subst (λ (n : ℕ). IsRounded mode negative n (magnitude layout bits).den (unsigned_abs b)) e.same (rounded_exact mode negative (unsigned_abs b) (magnitude layout bits).den (den_some layout bits));
      value = sym (sign_and_magnitude b) ∙ ap (λ s. with_sign s (unsigned_abs b)) (sym e.sign);
    }
