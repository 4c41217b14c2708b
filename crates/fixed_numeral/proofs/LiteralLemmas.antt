-- The digits of a text with underscores are those of the text without them.
use Rattle.std.proofs.Common.{◌≡◌, ℕ, Bool, true, false, cond, ◌==◌, List, [], ◌∷◌, ◌++◌, length, take, drop, Option, Some, None, option_to_list, refl, sym, ap, ◌∙◌, arith, eqb-true}
use Rattle.std.proofs.lemmas.List.{take_at, drop_at}
use Rattle.fixed_numeral.specs.declared.radix.Radix.{Radix}
use Rattle.fixed_numeral.specs.Numeral.{Parts, HasParts, fraction_text, exponent_text, fractional_digits}
use Rattle.fixed_numeral.specs.Digits.{digits_in}
use Rattle.fixed_numeral.specs.Literal.{without_underscores, underscore}
use Rattle.fixed_numeral.proofs.DigitLemmas.{digits_in_append, other_before}
use Rattle.fixed_numeral.proofs.MagnitudeLemmas.{whole_count, after_count}

same_prefix : (b : ℕ) (xs ys : List ℕ) → digits_in xs ≡ digits_in ys → digits_in (b ∷ xs) ≡ digits_in (b ∷ ys)
same_prefix b xs ys e = digits_in_append (b ∷ []) xs ∙ ap (λ ds. digits_in (b ∷ []) ++ ds) e ∙ sym (digits_in_append (b ∷ []) ys)

pub without_same : (bs : List ℕ) → digits_in (without_underscores bs) ≡ digits_in bs
without_same [] = refl
without_same (b ∷ bs) = by_test (b == underscore) refl (without_same bs)
  where
    by_test : (c : Bool) → (b == underscore) ≡ c → digits_in (without_underscores bs) ≡ digits_in bs → digits_in (cond c (without_underscores bs) (b ∷ without_underscores bs)) ≡ digits_in (b ∷ bs)
    by_test true e h =
        h ∙ sym (other_before 95 bs (omega arith)) ∙ ap (λ x. digits_in (x ∷ bs)) (sym (eqb-true b 95 e))
    by_test false e h = same_prefix b (without_underscores bs) bs h

point_passed : (f : Option (List ℕ)) → digits_in (fraction_text f) ≡ digits_in (fractional_digits f)
point_passed None = refl
point_passed (Some ds) = other_before 46 ds (omega arith)

-- the whole digits come first, and the digits of the fraction after them
pub unsigned_digits : (w : List ℕ) (f : Option (List ℕ)) (ys : List ℕ) → digits_in (w ++ (fraction_text f ++ ys)) ≡ digits_in w ++ (digits_in (fractional_digits f) ++ digits_in ys)
unsigned_digits w f ys = digits_in_append w (fraction_text f ++ ys) ∙ ap (λ ds. digits_in w ++ ds) (digits_in_append (fraction_text f) ys ∙ ap (λ ds. ds ++ digits_in ys) (point_passed f))

-- the first digits of the text, with its underscores, are the whole digits
pub literal_whole : (r : Radix) (bs : List ℕ) (p : Parts) (n : ℕ) → HasParts r (without_underscores bs) p → p.sign ≡ None → n ≡ length p.whole → take n (digits_in bs) ≡ digits_in p.whole
literal_whole r bs p n h s e =
    let text : without_underscores bs ≡ p.whole ++ (fraction_text p.fraction ++ exponent_text p.exponent) = h.text ∙ ap (λ t. option_to_list t ++ (p.whole ++ (fraction_text p.fraction ++ exponent_text p.exponent))) s in
    ap (take n) (sym (without_same bs) ∙ ap digits_in text ∙ unsigned_digits p.whole p.fraction (exponent_text p.exponent)) ∙ take_at (digits_in p.whole) (digits_in (fractional_digits p.fraction) ++ digits_in (exponent_text p.exponent)) n (whole_count r p h.parts ∙ sym e)

pub literal_fraction : (r : Radix) (bs : List ℕ) (p : Parts) (n m : ℕ) → HasParts r (without_underscores bs) p → p.sign ≡ None → n ≡ length p.whole → m ≡ length (fractional_digits p.fraction) → take m (drop n (digits_in bs)) ≡ digits_in (fractional_digits p.fraction)
literal_fraction r bs p n m h s e k =
    let text : without_underscores bs ≡ p.whole ++ (fraction_text p.fraction ++ exponent_text p.exponent) = h.text ∙ ap (λ t. option_to_list t ++ (p.whole ++ (fraction_text p.fraction ++ exponent_text p.exponent))) s in
    ap (λ ds. take m (drop n ds)) (sym (without_same bs) ∙ ap digits_in text ∙ unsigned_digits p.whole p.fraction (exponent_text p.exponent)) ∙ ap (take m) (drop_at (digits_in p.whole) (digits_in (fractional_digits p.fraction) ++ digits_in (exponent_text p.exponent)) n (whole_count r p h.parts ∙ sym e)) ∙ take_at (digits_in (fractional_digits p.fraction)) (digits_in (exponent_text p.exponent)) m (after_count r p h.parts ∙ sym k)
