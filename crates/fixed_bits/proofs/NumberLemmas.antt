-- Numbers by sign and magnitude: their images, and how they are moved.
use Rattle.std.proofs.Common.{◌≡◌, ℕ, zero, suc, ◌+◌, ◌-◌, ◌*◌, ◌/◌, ◌%◌, ◌^◌, ◌<◌, ◌≤◌, ◌⊎◌, ◌↔◌, Bool, true, false, not, if◌then◌else◌, IsTrue, IfSome, Option, Some, None, ⊎_elim, div-add-mod', refl, sym, ap, ◌∙◌, arith, inl, inr, ℤ, pos, negsuc, unsigned_abs, ◌+ℤ◌, ◌*ℤ◌, mod-lt, mul-le-mul_right}
use Rattle.std.specs.Int.{is_negative}
use mir.Val.{bool_byte}
use Rattle.std.proofs.Math.Nat.{div-add-mod}
use Rattle.std.proofs.Math.Pow.{pow_mono}
use Rattle.std.proofs.lemmas.Bool.{cases_lt}
use Rattle.std.proofs.lemmas.Int.{ints}
use Rattle.std.proofs.lemmas.Nat.{div-mul-add, pow_pos, pow-add}
use Rattle.fixed_bits.specs.Down.{IsDown, down}
use Rattle.fixed_bits.specs.Formats.{FormatParts, IsFormat}
use Rattle.fixed_bits.specs.Images.{IsImage, IsInRangeBy, IsOutOfRangeBy, IsSaturated, IsSymmetric, IsWrapped, DiffersByMultiple}
use Rattle.fixed_bits.specs.Numbers.{IsImageUnlessRefused, IsNumber, IsRefused, greatest_magnitude, greatest_magnitude_by, number_of_image, with_sign}
use Rattle.fixed_bits.specs.Ranges.{IsInRange, IsOutOfRange, IsWide, IsWidth}
use Rattle.fixed_bits.specs.declared.format.Policy.{Policy}
use Rattle.fixed_bits.specs.declared.format.Policy.TheVariants.{Checked, Saturating, Wrapping, Symmetric}
use Rattle.fixed_bits.specs.declared.number.Image.{Image}
use Rattle.fixed_bits.specs.declared.number.Number.{Number}
use Rattle.fixed_bits.proofs.DownLemmas.{down_unique, grown, shortened}
use Rattle.fixed_bits.proofs.ImageLemmas.{image_same, in_range_of, in_wide, out_not_in, twice, width_most}
use Rattle.fixed_bits.proofs.Integers.{neg_times, next_times}
use Rattle.fixed_bits.proofs.LawLemmas.{policy_range_decided, range_decided}

-- ---- the greatest magnitude in range
greatest_below : (sign negative : Bool) (n : ℕ) → IsWidth n → greatest_magnitude sign negative n < 2 ^ n
greatest_below true true n w = omega (arith, twice n w, pow_pos (n - 1))
greatest_below true false n w = omega (arith, twice n w, pow_pos (n - 1))
greatest_below false true n w = pow_pos n
greatest_below false false n w = omega (arith, pow_pos n)

out_by_magnitude : (sign negative : Bool) (n m : ℕ) → IsOutOfRange sign n (with_sign negative m) ↔ (greatest_magnitude sign negative n < m)
out_by_magnitude true true n m = let p = pow_pos (n - 1) in (λ o. ⊎_elim (λ l. omega (arith, ints)) (λ h. absurd (omega (arith, ints))) o, λ l. inl (omega (arith, ints)))
out_by_magnitude true false n m = let p = pow_pos (n - 1) in (λ o. ⊎_elim (λ l. absurd (omega (arith, ints))) (λ h. omega (arith, ints)) o, λ l. inr (omega (arith, ints)))
out_by_magnitude false true n m = let p = pow_pos n in (λ o. ⊎_elim (λ l. omega (arith, ints)) (λ h. absurd (omega (arith, ints))) o, λ l. inl (omega (arith, ints)))
out_by_magnitude false false n m = let p = pow_pos n in (λ o. ⊎_elim (λ l. absurd (omega (arith, ints))) (λ h. omega (arith, ints)) o, λ l. inr (omega (arith, ints)))

-- the same for the policy's range
out_by_magnitude_of : (p : Policy) (sign negative : Bool) (n m : ℕ) → IsOutOfRangeBy p sign n (with_sign negative m) ↔ (greatest_magnitude_by p sign negative n < m)
out_by_magnitude_of Checked sign negative n m = out_by_magnitude sign negative n m
out_by_magnitude_of Saturating sign negative n m = out_by_magnitude sign negative n m
out_by_magnitude_of Wrapping sign negative n m = out_by_magnitude sign negative n m
out_by_magnitude_of Symmetric true true n m = let p = pow_pos (n - 1) in (λ o. ⊎_elim (λ l. omega (arith, ints)) (λ h. absurd (omega (arith, ints))) o, λ l. inl (omega (arith, ints)))
out_by_magnitude_of Symmetric true false n m = let p = pow_pos (n - 1) in (λ o. ⊎_elim (λ l. absurd (omega (arith, ints))) (λ h. omega (arith, ints)) o, λ l. inr (omega (arith, ints)))
out_by_magnitude_of Symmetric false negative n m = out_by_magnitude false negative n m

within_greatest : (p : Policy) (sign negative : Bool) (n : ℕ) → greatest_magnitude_by p sign negative n ≤ greatest_magnitude sign negative n
within_greatest Checked sign negative n = omega arith
within_greatest Saturating sign negative n = omega arith
within_greatest Wrapping sign negative n = omega arith
within_greatest Symmetric true true n = omega arith
within_greatest Symmetric true false n = omega arith
within_greatest Symmetric false negative n = omega arith

pub inside : (sign : Bool) (n : ℕ) (v : ℤ) (out : Bool) → out ≡ false → (IsTrue out ↔ IsOutOfRange sign n v) → IsInRange sign n v
inside sign n v out o test = ⊎_elim (λ i. i) (λ past. let t = test.1 past in absurd (cc)) (range_decided sign n v).0

-- a number that is not out of the policy's range is in it
pub inside_by : (p : Policy) (sign : Bool) (n : ℕ) (v : ℤ) (out : Bool) → out ≡ false → (IsTrue out ↔ IsOutOfRangeBy p sign n v) → IsInRangeBy p sign n v
inside_by p sign n v out o test = ⊎_elim (λ i. i) (λ past. let t = test.1 past in absurd (cc)) (policy_range_decided p sign n v).0

small_in_range : (sign negative : Bool) (n m : ℕ) → m ≤ greatest_magnitude sign negative n → IsInRange sign n (with_sign negative m)
small_in_range sign negative n m l = ⊎_elim (λ i. i) (λ out. let over = (out_by_magnitude sign negative n m).0 out in absurd (omega (arith, over, l))) (range_decided sign n (with_sign negative m)).0

end_saturates : (sign negative : Bool) (n m : ℕ) → greatest_magnitude sign negative n < m → IsSaturated sign n (with_sign negative m) (with_sign negative (greatest_magnitude sign negative n))
end_saturates true true n m l = let p = pow_pos (n - 1) in record { same = λ h. absurd (omega (arith, ints, h.low)); below = λ b. omega (arith, ints); above = λ a. absurd (omega (arith, ints)) }
end_saturates true false n m l = let p = pow_pos (n - 1) in record { same = λ h. absurd (omega (arith, ints, h.high)); below = λ b. absurd (omega (arith, ints)); above = λ a. omega (arith, ints) }
end_saturates false true n m l = let p = pow_pos n in record { same = λ h. absurd (omega (arith, ints, h.low)); below = λ b. omega (arith, ints); above = λ a. absurd (omega (arith, ints)) }
end_saturates false false n m l = let p = pow_pos n in record { same = λ h. absurd (omega (arith, ints, h.high)); below = λ b. absurd (omega (arith, ints)); above = λ a. omega (arith, ints) }

end_is_symmetric : (sign negative : Bool) (n m : ℕ) → greatest_magnitude_by Symmetric sign negative n < m → IsSymmetric sign n (with_sign negative m) (with_sign negative (greatest_magnitude_by Symmetric sign negative n))
end_is_symmetric true true n m l = let p = pow_pos (n - 1) in record { same = λ h. absurd (omega (arith, ints, h.low)); below = λ b. omega (arith, ints); above = λ a. absurd (omega (arith, ints)) }
end_is_symmetric true false n m l = let p = pow_pos (n - 1) in record { same = λ h. absurd (omega (arith, ints, h.high)); below = λ b. absurd (omega (arith, ints)); above = λ a. omega (arith, ints) }
end_is_symmetric false true n m l = let p = pow_pos n in record { same = λ h. absurd (omega (arith, ints, h.low)); below = λ b. omega (arith, ints); above = λ a. absurd (omega (arith, ints)) }
end_is_symmetric false false n m l = let p = pow_pos n in record { same = λ h. absurd (omega (arith, ints, h.high)); below = λ b. absurd (omega (arith, ints)); above = λ a. omega (arith, ints) }

pub not_negative : (n : ℕ) → is_negative (pos n) ≡ false
not_negative zero = refl
not_negative (suc n) = grind arith

pub sign_and_magnitude : (v : ℤ) → with_sign (is_negative v) (unsigned_abs v) ≡ v
sign_and_magnitude (pos m) = rw (not_negative m) refl
sign_and_magnitude (negsuc m) = refl

-- ---- the high bits of a magnitude
beyond_is : (negative : Bool) (high m low : ℕ) → (with_sign negative (high * m + low) ≡ with_sign negative low +ℤ pos (high * m)) ⊎ (with_sign negative (high * m + low) +ℤ pos (high * m) ≡ with_sign negative low)
beyond_is true high m low = inr (omega (arith, ints))
beyond_is false high m low = inl (omega (arith, ints))

differs_beyond : (negative : Bool) (high m low : ℕ) (c : ℤ) → DiffersByMultiple m c (with_sign negative low) → DiffersByMultiple m c (with_sign negative (high * m + low))
differs_beyond negative high m low c (j, k, e) = ⊎_elim
    (λ a. (j + high, k, omega (arith, ints)))
    (λ a. (j, k + high, omega (arith, ints)))
    (beyond_is negative high m low)

some_high : (h : ℕ) → (0 < h) ⊎ (h ≡ 0)
some_high zero = inr refl
some_high (suc h) = inl (omega arith)

more_than : (high m low : ℕ) → 0 < high → m ≤ high * m + low
more_than high m low h = omega (arith, mul-le-mul_right m h)

none_high : (high m low : ℕ) → high ≡ 0 → high * m + low ≡ low
none_high high m low e = rw e (omega arith)

-- 2^64 is a multiple of 2^n
wide_multiple : (n : ℕ) → n ≤ 64 → 2 ^ 64 ≡ 2 ^ (64 - n) * 2 ^ n
wide_multiple n l = ap (λ i. 2 ^ i) (let z : 64 ≡ (64 - n) + n = omega arith in z) ∙ pow-add 2 (64 - n) n

multiple : (a m k q low : ℕ) → m ≡ k * q → a * m + low ≡ a * k * q + low
multiple a m k q low e = omega (arith, ap (λ x. a * x) e)

over : (end high n m low : ℕ) → end < n → n ≤ m → 0 < high → end < high * m + low
over end high n m low b l p = omega (arith, more_than high m low p)

large : (end high m low : ℕ) → end < low → end < high * m + low
large end high m low l = omega arith

-- a number from its sign and the lowest 64 bits of its magnitude
pub of_magnitude : (number : Number) (m : ℕ) → number.low ≡ m % 2 ^ 64 → (IsTrue number.has_high_bits ↔ (2 ^ 64 ≤ m)) → IsNumber number (with_sign number.negative m)
of_magnitude number m low high =
    let parts : m ≡ m / 2 ^ 64 * 2 ^ 64 + number.low = omega (arith, div-add-mod m (2 ^ 64), low) in
    let some : (2 ^ 64 ≤ m) ↔ (0 < m / 2 ^ 64) = (λ l. omega (arith, div-add-mod m (2 ^ 64), mod-lt m (pow_pos 64), l), λ l. omega (arith, div-add-mod m (2 ^ 64), l)) in
    record {
      high = m / 2 ^ 64;
      value = ap (with_sign number.negative) parts;
      over = (λ t. some.0 (high.0 t), λ l. high.1 (some.1 l));
    }

-- ---- the images of a number
module _ (f : FormatParts) (number : Number) (v : ℤ) (width : IsWidth f.width) (is : IsNumber number v) where
  most : 2 ^ f.width ≤ 2 ^ 64
  most = pow_mono (width_most f.width width)

  below : (p : Policy) → greatest_magnitude_by p f.signed number.negative f.width < 2 ^ f.width
  below p = omega (arith, greatest_below f.signed number.negative f.width width, within_greatest p f.signed number.negative f.width)

  -- out of the policy's range, by sign and magnitude
  out_test : (p : Policy) → IsOutOfRangeBy p f.signed f.width v ↔ (greatest_magnitude_by p f.signed number.negative f.width < is.high * 2 ^ 64 + number.low)
  out_test p = rw is.value (out_by_magnitude_of p f.signed number.negative f.width (is.high * 2 ^ 64 + number.low))

  pub out_tested : (p : Policy) (out : Bool) (end : ℕ) → end ≡ greatest_magnitude_by p f.signed number.negative f.width → (IsTrue out ↔ (IsTrue number.has_high_bits ⊎ (end < number.low))) → IsTrue out ↔ IsOutOfRangeBy p f.signed f.width v
  out_tested p out end e flag =
      let test : IsTrue out ↔ (IsTrue number.has_high_bits ⊎ (greatest_magnitude_by p f.signed number.negative f.width < number.low)) = rw e at flag in (
        λ t. (out_test p).1 (⊎_elim (λ b. over _ is.high (2 ^ f.width) (2 ^ 64) number.low (below p) most (is.over.0 b)) (λ l. large _ is.high (2 ^ 64) number.low l) (test.0 t)),
        λ o. ⊎_elim (λ b. test.1 (inl (is.over.1 b))) (λ z. test.1 (inr (rw (none_high is.high (2 ^ 64) number.low z) at ((out_test p).0 o)))) (some_high is.high),
      )

  -- a number in range is given by its sign and the lowest 64 bits of its magnitude
  pub low_number : IsInRange f.signed f.width v → v ≡ with_sign number.negative number.low
  low_number i = ⊎_elim
      (λ p. absurd (out_not_in f.signed f.width v ((out_test Checked).1 (over _ is.high (2 ^ f.width) (2 ^ 64) number.low (below Checked) most p)) i))
      (λ z. is.value ∙ ap (with_sign number.negative) (none_high is.high (2 ^ 64) number.low z))
      (some_high is.high)

  -- a Wrapping image of the lowest 64 bits is a Wrapping image of the number
  pub low_wrapped : (c : ℤ) → IsWrapped f.signed f.width (with_sign number.negative number.low) c → IsWrapped f.signed f.width v c
  low_wrapped c image =
      let value : is.high * 2 ^ 64 + number.low ≡ is.high * 2 ^ (64 - f.width) * 2 ^ f.width + number.low = multiple is.high (2 ^ 64) (2 ^ (64 - f.width)) (2 ^ f.width) number.low (wide_multiple f.width (width_most f.width width)) in
      rw (is.value, value) (record { in_range = image.in_range; near = differs_beyond number.negative (is.high * 2 ^ (64 - f.width)) (2 ^ f.width) number.low c image.near })

  -- out of range, the image is the end of the range on the number's side
  end_image : (policy : Policy) → ((policy ≡ Saturating) ⊎ (policy ≡ Symmetric)) → IsOutOfRangeBy policy f.signed f.width v → IsImage policy f.signed f.width v (with_sign number.negative (greatest_magnitude_by policy f.signed number.negative f.width))
  end_image Saturating to_end o = rw is.value (end_saturates f.signed number.negative f.width (is.high * 2 ^ 64 + number.low) ((out_test Saturating).0 o))
  end_image Symmetric to_end o = rw is.value (end_is_symmetric f.signed number.negative f.width (is.high * 2 ^ 64 + number.low) ((out_test Symmetric).0 o))
  end_image Checked (inl e) o = absurd (cc)
  end_image Checked (inr e) o = absurd (cc)
  end_image Wrapping (inl e) o = absurd (cc)
  end_image Wrapping (inr e) o = absurd (cc)

  -- a number in range that `negative` and `low` keep is its own image
  unchanged : (policy : Policy) (end low : ℕ) (negative : Bool) → end ≡ greatest_magnitude_by policy f.signed number.negative f.width → (IsTrue false ↔ (IsTrue number.has_high_bits ⊎ (end < number.low))) → (number.low ≤ greatest_magnitude f.signed number.negative f.width → (negative ≡ number.negative) × (low ≡ number.low)) → IsImage policy f.signed f.width v (with_sign negative low)
  unchanged policy end low negative e flag same =
      let within : number.low ≤ end = ⊎_elim (λ (past : end < number.low). let t : IsTrue false = flag.1 (inr past) in absurd (cc)) (λ (l : number.low ≤ end). l) (cases_lt end number.low) in
      let kept = same (omega (arith, within, e, within_greatest policy f.signed number.negative f.width)) in
      let i = inside_by policy f.signed f.width v false refl (out_tested policy false end e flag) in
      rw (kept.0, kept.1, ← low_number (in_range_of policy f.signed f.width v i)) (image_same policy f.signed f.width v i)

  -- the image under a policy that neither refuses the number nor moves it to an end
  other_image : (policy : Policy) (out : Bool) (end low : ℕ) (negative : Bool) → end ≡ greatest_magnitude_by policy f.signed number.negative f.width → (IsTrue out ↔ (IsTrue number.has_high_bits ⊎ (end < number.low))) → ¬ IsRefused policy out → ¬ (((policy ≡ Saturating) ⊎ (policy ≡ Symmetric)) × IsTrue out) → (number.low ≤ greatest_magnitude f.signed number.negative f.width → (negative ≡ number.negative) × (low ≡ number.low)) → IsWrapped f.signed f.width (with_sign number.negative number.low) (with_sign negative low) → IsImage policy f.signed f.width v (with_sign negative low)
  other_image Wrapping out end low negative e flag nc ns same image = low_wrapped (with_sign negative low) image
  other_image Checked true end low negative e flag nc ns same image = absurd (nc (refl, refl))
  other_image Saturating true end low negative e flag nc ns same image = absurd (ns (inl refl, refl))
  other_image Symmetric true end low negative e flag nc ns same image = absurd (ns (inr refl, refl))
  other_image Checked false end low negative e flag nc ns same image = unchanged Checked end low negative e flag same
  other_image Saturating false end low negative e flag nc ns same image = unchanged Saturating end low negative e flag same
  other_image Symmetric false end low negative e flag nc ns same image = unchanged Symmetric end low negative e flag same

  -- the image under a policy that does not refuse the number
  pub chosen_image : (policy : Policy) (out is_end : Bool) (end low : ℕ) (negative : Bool) → end ≡ greatest_magnitude_by policy f.signed number.negative f.width → (IsTrue out ↔ (IsTrue number.has_high_bits ⊎ (end < number.low))) → (IsTrue is_end ↔ (((policy ≡ Saturating) ⊎ (policy ≡ Symmetric)) × IsTrue out)) → (number.low ≤ greatest_magnitude f.signed number.negative f.width → (negative ≡ number.negative) × (low ≡ number.low)) → IsWrapped f.signed f.width (with_sign number.negative number.low) (with_sign negative low)
      → ¬ IsRefused policy out → IsImage policy f.signed f.width v (with_sign (if is_end then number.negative else negative) (if is_end then end else low))
  chosen_image policy out true end low negative e flag at_end same image nc =
      let ends = at_end.0 refl in
      rw e (end_image policy ends.0 ((out_tested policy out end e flag).0 ends.1))
  chosen_image policy out false end low negative e flag at_end same image nc = other_image policy out end low negative e flag nc (λ w. let t : IsTrue false = at_end.1 w in absurd (cc)) same image

-- an answer that is given only if the policy does not refuse the number is its image
pub admitted_image : (policy : Policy) (f : FormatParts) (v : ℤ) (image : Image) (answer : Option ℤ) → IsImageUnlessRefused policy f v image → IfSome answer (λ c. ¬ IsRefused policy image.is_out_of_range × (c ≡ number_of_image image)) → IfSome answer (λ c. IsImage policy f.signed f.width v c)
admitted_image policy f v image None is answered = answered
admitted_image policy f v image (Some c) is answered = rw answered.1 (is answered.0)

-- under Checked, the policy's range is the format's range
pub refused_out : (policy : Policy) (s : Bool) (n : ℕ) (v : ℤ) → policy ≡ Checked → IsOutOfRangeBy policy s n v ↔ IsOutOfRange s n v
refused_out policy s n v e = rw e ((λ o. o), (λ o. o))

pub admitted_none : (policy : Policy) (s : Bool) (n : ℕ) (v : ℤ) (out : Bool) (N : Type 0) → N ↔ IsRefused policy out → (IsTrue out ↔ IsOutOfRangeBy policy s n v) → N ↔ ((policy ≡ Checked) × IsOutOfRange s n v)
admitted_none policy s n v out N refused flag = (
  λ w. let r = refused.0 w in (r.0, (refused_out policy s n v r.0).0 (flag.0 r.1)),
  λ w. refused.1 (w.0, flag.1 ((refused_out policy s n v w.0).1 w.1)),
)

pub admitted_range : (policy : Policy) (f : FormatParts) (image : Image) (answer : Option ℤ) → IsInRange f.signed f.width (number_of_image image) → IfSome answer (λ c. ¬ IsRefused policy image.is_out_of_range × (c ≡ number_of_image image)) → IfSome answer (λ c. IsInRange f.signed f.width c)
admitted_range policy f image None i answered = answered
admitted_range policy f image (Some c) i answered = rw answered.1 i

pub admitted_wide : (policy : Policy) (f : FormatParts) (image : Image) (answer : Option ℤ) → IsFormat f.width f.frac → IsInRange f.signed f.width (number_of_image image) → IfSome answer (λ c. ¬ IsRefused policy image.is_out_of_range × (c ≡ number_of_image image)) → IfSome answer IsWide
admitted_wide policy f image None valid i answered = answered
admitted_wide policy f image (Some c) valid i answered = in_wide f.signed f.width c (width_most f.width valid.is_width) (rw answered.1 i)

-- an end of the range and a number in range: the chosen one is in range
pub chosen_in_range : (f : FormatParts) (policy : Policy) (is_end negative other : Bool) (end low : ℕ) → end ≡ greatest_magnitude_by policy f.signed negative f.width → IsInRange f.signed f.width (with_sign other low) → IsInRange f.signed f.width (with_sign (if is_end then negative else other) (if is_end then end else low))
chosen_in_range f policy true negative other end low e i = small_in_range f.signed negative f.width end (omega (arith, e, within_greatest policy f.signed negative f.width))
chosen_in_range f policy false negative other end low e i = i

-- ---- all ones of a width
one_less : (m u t : ℕ) → m ≡ u * t → 0 < u → 0 < t → m - 1 ≡ (t - 1) * u + (u - 1)
one_less m u zero e some more = absurd (omega (arith, more))
one_less m u (suc t) e some more = let f : suc t - 1 ≡ t = omega arith in rw f (omega (arith, e, some))

pub ones_are : (n : ℕ) → IsWidth n → (2 ^ 64 - 1) / 2 ^ (64 - n) ≡ 2 ^ n - 1
ones_are n w =
    let parts : 2 ^ 64 - 1 ≡ (2 ^ n - 1) * 2 ^ (64 - n) + (2 ^ (64 - n) - 1) = one_less (2 ^ 64) (2 ^ (64 - n)) (2 ^ n) (wide_multiple n w.most) (pow_pos (64 - n)) (pow_pos n) in
    ap (λ m. m / 2 ^ (64 - n)) parts ∙ div-mul-add (2 ^ n - 1) (2 ^ (64 - n)) (2 ^ (64 - n) - 1) (omega (arith, pow_pos (64 - n)))

-- half of all ones, plus one for a negative number, is the greatest signed magnitude
pub half_of_ones : (signed negative : Bool) (n ones one : ℕ) → IsWidth n → signed ≡ true → ones ≡ 2 ^ n - 1 → one ≡ bool_byte negative → ones / 2 + one ≡ greatest_magnitude signed negative n
half_of_ones false negative n ones one w t e f = absurd (cc)
half_of_ones true true n ones one w t e f = omega (arith, twice n w, pow_pos (n - 1), e, f)
half_of_ones true false n ones one w t e f = omega (arith, twice n w, pow_pos (n - 1), e, f)

-- ---- the Wrapping image from the lowest bits of a magnitude
-- the greatest magnitudes of both signs, plus one for zero, add up to 2^n
ends_together : (signed negative : Bool) (n : ℕ) → IsWidth n → greatest_magnitude signed negative n + greatest_magnitude signed (not negative) n + 1 ≡ 2 ^ n
ends_together true true n w = omega (arith, twice n w, pow_pos (n - 1))
ends_together true false n w = omega (arith, twice n w, pow_pos (n - 1))
ends_together false true n w = omega (arith, pow_pos n)
ends_together false false n w = omega (arith, pow_pos n)

low_near : (negative : Bool) (m t q low : ℕ) → q * t + low ≡ m → DiffersByMultiple t (with_sign negative low) (with_sign negative m)
low_near false m t q low e = (q, 0, omega (arith, ints, e))
low_near true m t q low e = (0, q, omega (arith, ints, e))

turned_near : (negative : Bool) (m t q low : ℕ) → q * t + low ≡ m → low ≤ t → DiffersByMultiple t (with_sign (not negative) (t - low)) (with_sign negative m)
turned_near false m t q low e l = (q + 1, 0, omega (arith, ints, e, l))
turned_near true m t q low e l = (0, q + 1, omega (arith, ints, e, l))

pub wrapped_low : (f : FormatParts) (negative : Bool) (m end low : ℕ) → end ≡ greatest_magnitude f.signed negative f.width → low ≡ m % 2 ^ f.width → low ≤ end → IsWrapped f.signed f.width (with_sign negative m) (with_sign negative low)
wrapped_low f negative m end low e is l = record {
  in_range = small_in_range f.signed negative f.width low (rw e at l);
  near = low_near negative m (2 ^ f.width) (m / 2 ^ f.width) low (rw is (div-add-mod' m (2 ^ f.width)));
}

pub wrapped_turned : (f : FormatParts) (negative : Bool) (m end low : ℕ) → IsWidth f.width → end ≡ greatest_magnitude f.signed negative f.width → low ≡ m % 2 ^ f.width → end < low → IsWrapped f.signed f.width (with_sign negative m) (with_sign (not negative) (2 ^ f.width - low))
wrapped_turned f negative m end low width e is l =
    let below : low < 2 ^ f.width = rw is (mod-lt m (pow_pos f.width)) in
    record {
      in_range = small_in_range f.signed (not negative) f.width (2 ^ f.width - low) (omega (arith, ends_together f.signed negative f.width width, rw e at l, below));
      near = turned_near negative m (2 ^ f.width) (m / 2 ^ f.width) low (rw is (div-add-mod' m (2 ^ f.width))) (omega (arith, below));
    }

-- ---- the last bits shifted out
times_signed : (negative : Bool) (m d : ℕ) → with_sign negative m *ℤ pos d ≡ with_sign negative (m * d)
times_signed true m d = neg_times m d
times_signed false m d = refl

-- dropping the last bits rounds down if they are zero or the number is not negative
pub floored : (negative : Bool) (m k q r : ℕ) → q ≡ m / 2 ^ k → r ≡ m % 2 ^ k → ((negative ≡ false) ⊎ (r ≡ 0)) → IsDown (with_sign negative m) k 0 (with_sign negative q)
floored false m k q r e f either =
    let parts : q * 2 ^ k + r ≡ m = rw (e, f) (omega (arith, div-add-mod m (2 ^ k))) in
    let below : r < 2 ^ k = rw f (mod-lt m (pow_pos k)) in
    record {
      at_most = omega (arith, ints, parts, below, times_signed false q (2 ^ k), times_signed false m (2 ^ 0));
      above = rw next_times (omega (arith, ints, parts, below, times_signed false q (2 ^ k), times_signed false m (2 ^ 0)));
    }
floored true m k q r e f (inl positive) = absurd (cc)
floored true m k q r e f (inr none) =
    let all : q * 2 ^ k + r ≡ m = rw (e, f) (omega (arith, div-add-mod m (2 ^ k))) in
    let parts : q * 2 ^ k ≡ m = omega (arith, all, none) in
    let some = pow_pos k in
    record {
      at_most = omega (arith, ints, parts, some, times_signed true q (2 ^ k), times_signed true m (2 ^ 0));
      above = rw next_times (omega (arith, ints, parts, some, times_signed true q (2 ^ k), times_signed true m (2 ^ 0)));
    }

-- dropping nonzero bits of a negative number and adding one to the magnitude rounds down
pub floored_below : (m k q r : ℕ) → q ≡ m / 2 ^ k → r ≡ m % 2 ^ k → 0 < r → IsDown (with_sign true m) k 0 (with_sign true (q + 1))
floored_below m k q r e f some =
    let parts : q * 2 ^ k + r ≡ m = rw (e, f) (omega (arith, div-add-mod m (2 ^ k))) in
    let below : r < 2 ^ k = rw f (mod-lt m (pow_pos k)) in
    let more : (q + 1) * 2 ^ k ≡ q * 2 ^ k + 2 ^ k = omega arith in
    record {
      at_most = omega (arith, ints, parts, below, more, times_signed true (q + 1) (2 ^ k), times_signed true m (2 ^ 0));
      above = rw next_times (omega (arith, ints, parts, below, more, some, times_signed true (q + 1) (2 ^ k), times_signed true m (2 ^ 0)));
    }

-- ---- the moved number
-- a move shortens, then lengthens; one of the two is by 0
pub moved_either : (negative : Bool) (m whole from to : ℕ) → IsDown (with_sign negative m) (from - to) 0 (with_sign negative whole) → down (with_sign negative m) from to ≡ with_sign negative (whole * 2 ^ (to - from))
moved_either negative m whole from to is = ⊎_elim up short (cases_lt from to)
  where
    up : from < to → down (with_sign negative m) from to ≡ with_sign negative (whole * 2 ^ (to - from))
    up l =
        let none : from - to ≡ 0 = omega (arith, l) in
        let itself : IsDown (with_sign negative m) 0 0 (with_sign negative m) = floored negative m 0 m 0 (omega arith) (omega arith) (inr refl) in
        let same : with_sign negative m ≡ with_sign negative whole = down_unique (with_sign negative m) 0 0 (with_sign negative m) (with_sign negative whole) itself (rw none at is) in
        sym (grown (with_sign negative m) from to (omega (arith, l))) ∙ ap (λ v. v *ℤ pos (2 ^ (to - from))) same ∙ times_signed negative whole (2 ^ (to - from))

    short : to ≤ from → down (with_sign negative m) from to ≡ with_sign negative (whole * 2 ^ (to - from))
    short l =
        let none : to - from ≡ 0 = omega (arith, l) in
        sym (shortened (with_sign negative m) from to (with_sign negative whole) l is) ∙ ap (with_sign negative) (let z : whole ≡ whole * 2 ^ (to - from) = rw none (omega arith) in z)
