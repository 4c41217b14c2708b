-- Numbers that every policy leaves as they are.
use Rattle.std.proofs.Common.{◌≡◌, ℕ, ◌+◌, ◌-◌, ◌*◌, ◌<◌, ◌≤◌, ◌^◌, Bool, true, false, refl, ap, arith, ◌∙◌}
use Rattle.std.proofs.Math.Nat.{pow-le-pow_right}
use Rattle.std.proofs.lemmas.Bool.{false≢true}
use Rattle.std.proofs.lemmas.Int.{ints}
use Rattle.std.proofs.lemmas.Nat.{pow_pos, pow-add}
use Rattle.fixed_bits.specs.Formats.{FormatParts}
use Rattle.fixed_bits.specs.Images.{IsInRangeBy}
use Rattle.fixed_bits.specs.Numbers.{greatest_magnitude, with_sign}
use Rattle.fixed_bits.specs.Ranges.{IsWidth}
use Rattle.fixed_bits.specs.declared.format.Policy.{Policy}
use Rattle.fixed_bits.specs.declared.format.Policy.TheVariants.{Checked, Saturating, Wrapping, Symmetric}
use Rattle.fixed_float.specs.declared.short.ShortNumber.{ShortNumber}
use Rattle.fixed_float.specs.Kept.{IsGreatestKept, IsKept}

-- ---- the range
-- 2^n is two halves of 2^(n - 1)
twice : (n : ℕ) → IsWidth n → 2 ^ n ≡ 2 * 2 ^ (n - 1)
twice n w = let e : n ≡ 1 + (n - 1) = omega (arith, w.some) in ap (λ x. 2 ^ x) e ∙ pow-add 2 1 (n - 1)

-- ---- a number in the range
pub below_half : (s : Bool) (n m : ℕ) → IsWidth n → s ≡ true → m ≤ greatest_magnitude s false n → m < 2 ^ 63
below_half true n m w t l = let most : 2 ^ (n - 1) ≤ 2 ^ 63 = pow-le-pow_right {n = 2} (omega arith) {i = n - 1} {j = 63} (omega (arith, w.most)) in omega (arith, l, most, pow_pos (n - 1))
below_half false n m w t l = absurd (false≢true t)

inside : (p : Policy) (s negative : Bool) (n m : ℕ) → (negative ≡ true → s ≡ true) → m ≤ greatest_magnitude s false n → IsInRangeBy p s n (with_sign negative m)
inside Checked true true n m k l = record { low = omega (arith, ints, l, pow_pos (n - 1)); high = omega (arith, ints, l, pow_pos (n - 1)) }
inside Saturating true true n m k l = record { low = omega (arith, ints, l, pow_pos (n - 1)); high = omega (arith, ints, l, pow_pos (n - 1)) }
inside Wrapping true true n m k l = record { low = omega (arith, ints, l, pow_pos (n - 1)); high = omega (arith, ints, l, pow_pos (n - 1)) }
inside Symmetric true true n m k l = record { low = omega (arith, ints, l, pow_pos (n - 1)); high = omega (arith, ints, l, pow_pos (n - 1)) }
inside Checked true false n m k l = record { low = omega (arith, ints, l, pow_pos (n - 1)); high = omega (arith, ints, l, pow_pos (n - 1)) }
inside Saturating true false n m k l = record { low = omega (arith, ints, l, pow_pos (n - 1)); high = omega (arith, ints, l, pow_pos (n - 1)) }
inside Wrapping true false n m k l = record { low = omega (arith, ints, l, pow_pos (n - 1)); high = omega (arith, ints, l, pow_pos (n - 1)) }
inside Symmetric true false n m k l = record { low = omega (arith, ints, l, pow_pos (n - 1)); high = omega (arith, ints, l, pow_pos (n - 1)) }
inside Checked false false n m k l = record { low = omega (arith, ints); high = omega (arith, ints, l, pow_pos n) }
inside Saturating false false n m k l = record { low = omega (arith, ints); high = omega (arith, ints, l, pow_pos n) }
inside Wrapping false false n m k l = record { low = omega (arith, ints); high = omega (arith, ints, l, pow_pos n) }
inside Symmetric false false n m k l = record { low = omega (arith, ints); high = omega (arith, ints, l, pow_pos n) }
inside p false true n m k l = absurd (false≢true (k refl))

pub is_kept : (f : FormatParts) (number : ShortNumber) (greatest : ℕ) → IsGreatestKept f greatest → (number.negative ≡ true → f.signed ≡ true) → number.magnitude ≤ greatest → IsKept f number
is_kept f number greatest g sign most = record {
  format = g.format;
  in_range = λ p. inside p f.signed number.negative f.width number.magnitude sign (omega (arith, most, g.value));
}
