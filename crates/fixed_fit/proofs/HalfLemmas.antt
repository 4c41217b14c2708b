-- Half an ulp, as a numeral of radix 2, is read as zero.
use Rattle.std.proofs.Common.{◌≡◌, ℕ, suc, zero, ◌+◌, ◌-◌, ◌*◌, ◌^◌, Bool, true, false, List, [], ◌∷◌, ◌++◌, length, replicate, refl, sym, ap, ◌∙◌, subst, arith, append-nil, pow_pos, pos, negsuc, ◌-ℤ◌, Some, None}
use Rattle.std.proofs.lemmas.Int.{ints}
use Rattle.std.specs.Prelude.{codes}
use Rattle.std.specs.Str.Parse.{AllDigits, digits_value_after}
use Rattle.fixed_bits.specs.Nearest.{IsNearest}
use Rattle.fixed_bits.specs.Ranges.{IsInRange}
use Rattle.fixed_bits.specs.declared.mode.ReadMode.TheVariants.{NearestEven}
use Rattle.fixed_numeral.specs.Numeral.{HasNumeral, Parts, text_of}
use Rattle.fixed_numeral.specs.Value.{Fraction, magnitude}
use Rattle.fixed_numeral.specs.declared.radix.Radix.TheVariants.{Bin}
use Rattle.fixed_read.specs.Reading.{IsReadNumber}
use Rattle.fixed_fit.specs.ErrorWord.{half_ulp}
use Rattle.fixed_fit.specs.Fitting.{Fits}

-- the digits after the point: zeros, then a one
abbrev pub zeros : ℕ → List ℕ
zeros k = replicate k 48

abbrev pub digits : ℕ → List ℕ
digits k = zeros k ++ 49 ∷ []

are_digits : (k : ℕ) → AllDigits 2 (digits k)
are_digits zero = (omega arith, tt)
are_digits (suc k) = (omega arith, are_digits k)

value : (k : ℕ) → digits_value_after 2 0 (digits k) ≡ 1
value zero = refl
value (suc k) = value k

count : (k : ℕ) → length (digits k) ≡ suc k
count zero = refl
count (suc k) = ap suc (count k)

abbrev pub parts : ℕ → Parts
parts k = record { sign = None; whole = 48 ∷ []; fraction = Some (digits k); exponent = None }

half_text : (k : ℕ) → half_ulp k ≡ text_of (parts k)
unfolding half_ulp
half_text k = ap (λ (l : List ℕ). 48 ∷ 46 ∷ l) (sym (append-nil (digits k)))

pub has_parts : (k : ℕ) → HasNumeral Bin (half_ulp k) (parts k)
has_parts k = record {
  beginning = record { parts = record { sign = tt; whole = (omega arith, tt); fraction = are_digits k; exponent = tt }; text = half_text k };
  mantissa = omega arith;
  exponent = tt;
}

below_zero : (k : ℕ) → pos 0 -ℤ pos (suc k) ≡ negsuc k
below_zero k = omega (arith, ints)

pub half : (k : ℕ) → magnitude Bin (parts k) ≡ record { num = 1; den = 1 * 2 ^ suc k }
half k = rw (value k, count k, below_zero k) refl

nearest : (k : ℕ) → IsNearest (1 * 2 ^ k) (1 * 2 ^ suc k) 0
nearest k = record { near = omega arith; tie = λ _. refl }

pub read_zero : (k : ℕ) → IsReadNumber NearestEven Bin (parts k) k (pos 0)
read_zero k = record {
  ulps = 0;
  rounded = subst (λ (m : Fraction). IsNearest (m.num * 2 ^ k) m.den 0) (sym (half k)) (nearest k);
  value = refl;
}

zero_in_range : (s : Bool) (n : ℕ) → IsInRange s n (pos 0)
zero_in_range true n = record { low = omega (arith, ints, pow_pos (n - 1)); high = omega (arith, ints, pow_pos (n - 1)) }
zero_in_range false n = record { low = omega (arith, ints); high = omega (arith, ints, pow_pos n) }

pub half_fits : (s : Bool) (n k : ℕ) → Fits Bin s n k (half_ulp k)
half_fits s n k = record { parts = parts k; has = has_parts k; number = pos 0; read = read_zero k; in_range = zero_in_range s n }

-- ---- the text of half an ulp
zero_more : (k : ℕ) → zeros k ++ 48 ∷ [] ≡ zeros (suc k)
zero_more zero = refl
zero_more (suc k) = ap (λ (l : List ℕ). 48 ∷ l) (zero_more k)

pub more_zeros : (k : ℕ) (old new : List ℕ) → old ≡ codes "0." ++ zeros k → new ≡ old ++ 48 ∷ [] → new ≡ codes "0." ++ zeros (k + 1)
more_zeros k old new is grown =
    let next : suc k ≡ k + 1 = omega arith in
    grown ∙ (ap (λ (l : List ℕ). l ++ 48 ∷ []) is ∙ (ap (λ (l : List ℕ). 48 ∷ 46 ∷ l) (zero_more k) ∙ ap (λ (n : ℕ). codes "0." ++ zeros n) next))

pub half_is : (k f : ℕ) (old new : List ℕ) → k ≡ f → old ≡ codes "0." ++ zeros k → new ≡ old ++ 49 ∷ [] → new ≡ half_ulp f
unfolding half_ulp
half_is k f old new same is grown = grown ∙ (ap (λ (l : List ℕ). l ++ 49 ∷ []) is ∙ ap (λ (n : ℕ). codes "0." ++ digits n) same)
