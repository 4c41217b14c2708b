-- The word of a format, split at its letter.
use Rattle.std.proofs.Common.{◌≡◌, ℕ, ℤ, pos, negsuc, neg_ℤ, zero, suc, ◌<◌, ◌≤◌, ◌+◌, ◌-◌, ◌^◌, ◌⊎◌, ◌++◌, Bool}
use Rattle.std.proofs.Common.{⊎_elim, true, false, cond, eqb, List, [], ◌∷◌, refl, sym, ap, ◌∙◌, arith, inl, inr}
use Rattle.std.specs.Fmt.{decimal, signed_decimal}
use lib.Signed.{mag}
use Rattle.std.proofs.lemmas.Bool.{ne_eqb, cases_lt}
use Rattle.std.specs.Str.Parse.{AllDigits}
use Rattle.std.proofs.lemmas.Int.{ints}
use Rattle.std.proofs.lemmas.Fmt.{decimal_is_IsNumeral}
use Rattle.std.proofs.lemmas.Str.Parse.{digit_from_value}
use Rattle.fixed_bits.specs.Formats.{FormatParts, IsFormat, whole_length}
use Rattle.fixed_respell.specs.Split.{count_of}
use Rattle.fixed_respell.specs.Words.{counts_text, fraction_letter, sign_letter}
use Rattle.fixed_respell.specs.Lemmas.SplitLemmas.{count_cons}

-- a byte that is not a digit
abbrev pub IsNoDigit : ℕ → Type 0
IsNoDigit b = (b < 48) ⊎ (57 < b)

-- such a byte does not equal a digit
pub no_digit_is : (b c : ℕ) → IsNoDigit b → 48 ≤ c → c ≤ 57 → b ≡ c → ⊥
no_digit_is b c (inl less) low high e = omega (arith, e, less, low)
no_digit_is b c (inr more) low high e = omega (arith, e, more, high)

none_is : (b : ℕ) → IsNoDigit b → (ds : List ℕ) → AllDigits 10 ds → count_of b ds ≡ 0
none_is b other [] digits = refl
none_is b other (c ∷ cs) digits =
    let is = digit_from_value c digits.0 in
    let differs : eqb c b ≡ false = ne_eqb c b (λ e. no_digit_is b c other is.0 is.1 (sym e)) in
    omega (arith, count_cons b c cs, ap (λ t. cond t 1 0 + count_of b cs) differs, none_is b other cs digits.1)

pub decimal_without : (b n : ℕ) → IsNoDigit b → n < 2 ^ 64 → count_of b (decimal n) ≡ 0
decimal_without b n other fits = none_is b other (decimal n) (decimal_is_IsNumeral n fits).0.1

pub decimal_no_letter : (n : ℕ) → n < 2 ^ 64 → count_of fraction_letter (decimal n) ≡ 0
decimal_no_letter n fits = decimal_without fraction_letter n (inr (omega arith)) fits

pub letters_differ : (s t : Bool) → sign_letter s ≡ sign_letter t → s ≡ t
letters_differ true true e = refl
letters_differ false false e = refl
letters_differ true false e = absurd (omega (arith, e))
letters_differ false true e = absurd (omega (arith, e))

-- the counts of a format whose fraction is at most as long as its width, and of one whose fraction is longer
pub counts_within : (mark : ℕ) (f : FormatParts) → f.frac ≤ f.width
    → counts_text mark f ≡ decimal (f.width - f.frac) ++ mark ∷ decimal f.frac
counts_within mark f within =
    let whole : whole_length f ≡ pos (f.width - f.frac) = omega (arith, ints, within) in
    ap (λ z. signed_decimal z ++ mark ∷ decimal f.frac) whole

negated : (n : ℕ) → 0 < n → signed_decimal (neg_ℤ (pos n)) ≡ 45 ∷ decimal n
negated zero some = absurd (omega (arith, some))
negated (suc n) some = refl

pub counts_beyond : (mark : ℕ) (f : FormatParts) → f.width < f.frac
    → counts_text mark f ≡ 45 ∷ (decimal (f.frac - f.width) ++ mark ∷ decimal f.frac)
counts_beyond mark f beyond =
    let whole : whole_length f ≡ neg_ℤ (pos (f.frac - f.width)) = omega (arith, ints, beyond) in
    ap (λ z. signed_decimal z ++ mark ∷ decimal f.frac) whole
    ∙ ap (λ t. t ++ mark ∷ decimal f.frac) (negated (f.frac - f.width) (omega (arith, beyond)))

-- a count of whole bits is small
mag_pos : (z : ℤ) (n : ℕ) → z ≡ pos n → mag z ≡ n
mag_pos z n e = ap mag e

mag_neg : (z : ℤ) (n : ℕ) → z ≡ neg_ℤ (pos n) → mag z ≤ n
mag_neg z zero e = let same : mag z ≡ 0 = ap mag e in omega (arith, same)
mag_neg z (suc n) e = let same : mag z ≡ n = ap mag e in omega (arith, same)

pub whole_small : (f : FormatParts) → IsFormat f.width f.frac → mag (whole_length f) ≤ 64
whole_small f is = ⊎_elim
    (λ (beyond : f.width < f.frac).
    omega (arith, mag_neg (whole_length f) (f.frac - f.width) (below beyond), is.within))
    (λ (within : f.frac ≤ f.width).
    omega (arith, mag_pos (whole_length f) (f.width - f.frac) (not_below within), is.is_width.most))
    (cases_lt f.width f.frac)
  where
    below : f.width < f.frac → whole_length f ≡ neg_ℤ (pos (f.frac - f.width))
    below beyond = omega (arith, ints, beyond)

    not_below : f.frac ≤ f.width → whole_length f ≡ pos (f.width - f.frac)
    not_below within = omega (arith, ints, within)

pub signed_no_letter : (z : ℤ) → mag z < 2 ^ 63 → count_of fraction_letter (signed_decimal z) ≡ 0
signed_no_letter (pos n) small = decimal_no_letter n (omega (arith, small))
signed_no_letter (negsuc n) small =
    omega (arith, count_cons fraction_letter 45 (decimal (suc n)), decimal_no_letter (suc n) (omega (arith, small)))
