-- A numeral without a sign is the rest of a literal.
use Rattle.std.proofs.Common.{◌≡◌, ℕ, ◌<◌, ◌≤◌, Bool, true, false, ◌==◌, List, [], ◌∷◌, ◌++◌, length, Option, Some, None, IfSome, IsTrue, option_to_list, ℤ, refl, sym, ap, subst, ◌∙◌, arith, eqb-true, length-append}
use Rattle.std.specs.Char.{digit_value}
use Rattle.std.specs.Str.Parse.{AllDigits}
use Rattle.fixed_numeral.specs.declared.radix.Radix.{Radix}
use Rattle.fixed_numeral.specs.declared.radix.Radix.TheVariants.{Bin, Oct, Dec, Hex}
use Rattle.fixed_numeral.specs.Numeral.{Parts, Exponent, HasParts, HasNumeral, IsNumeral, IsExponentOf, base, fraction_text, exponent_text, is_minus, is_separator, is_sign, point, text_of}
use Rattle.fixed_numeral.specs.Literal.{underscore, without_underscores, begins_signed, HasRest, HasLiteral, IsLiteral, literal_radix, literal_rest, sign_of}
use Rattle.fixed_numeral.specs.PartNumbers.{IsShortNumeral}
use Rattle.fixed_numeral.proofs.LiteralScanLemmas.{literal_rest_of, no_sign, without_append, without_shorter}

-- the bytes contain no underscore
abbrev Plain : List ℕ → Type 0
Plain bs = without_underscores bs ≡ bs

other_plain : (b : ℕ) (bs : List ℕ) → (b == underscore) ≡ false → Plain bs → Plain (b ∷ bs)
other_plain b bs e h = rw (e, h) refl

append_plain : (xs ys : List ℕ) → Plain xs → Plain ys → Plain (xs ++ ys)
append_plain xs ys h k = without_append xs ys ∙ rw (h, k) refl

not_underscore : (P : ℕ → Type 0) (b : ℕ) → P b → (P underscore → ⊥) → (b == underscore) ≡ false
not_underscore P b h none = by_test (b == underscore) refl
  where
    by_test : (c : Bool) → (b == underscore) ≡ c → (b == underscore) ≡ false
    by_test true e = absurd (none (subst P (eqb-true b underscore e) h))
    by_test false e = e

digits_plain : (b : ℕ) (ds : List ℕ) → b ≤ 36 → AllDigits b ds → Plain ds
digits_plain b [] most h = refl
digits_plain b (d ∷ ds) most h = other_plain d ds (not_underscore (λ x. digit_value x < b) d h.0 (λ l. omega (arith, l, most))) (digits_plain b ds most h.1)

base_most : (r : Radix) → base r ≤ 36
base_most Bin = omega arith
base_most Oct = omega arith
base_most Dec = omega arith
base_most Hex = omega arith

sign_plain : (s : Option ℕ) → IfSome s (λ b. IsTrue (is_sign b)) → Plain (option_to_list s)
sign_plain None h = refl
sign_plain (Some b) h = other_plain b [] (not_underscore (λ x. IsTrue (is_sign x)) b h (λ l. absurd (cc))) refl

separator_none : (r : Radix) → IsTrue (is_separator r underscore) → ⊥
separator_none Bin h = absurd (cc)
separator_none Oct h = absurd (cc)
separator_none Dec h = absurd (cc)
separator_none Hex h = absurd (cc)

fraction_plain : (r : Radix) (f : Option (List ℕ)) → IfSome f (AllDigits (base r)) → Plain (fraction_text f)
fraction_plain r None h = refl
fraction_plain r (Some ds) h = other_plain point ds refl (digits_plain (base r) ds (base_most r) h)

exponent_plain : (r : Radix) (x : Option Exponent) → IfSome x (IsExponentOf r) → Plain (exponent_text x)
exponent_plain r None h = refl
exponent_plain r (Some e) h = other_plain e.separator (option_to_list e.sign ++ e.digits) (not_underscore (λ x. IsTrue (is_separator r x)) e.separator h.separator (separator_none r)) (append_plain (option_to_list e.sign) e.digits (sign_plain e.sign h.sign) (digits_plain 10 e.digits (omega arith) h.digits))

-- a numeral contains no underscore
numeral_plain : (r : Radix) (bs : List ℕ) (p : Parts) → HasNumeral r bs p → Plain bs
numeral_plain r bs p h =
    let is = h.beginning.parts in
    let plain : Plain (text_of p) = append_plain (option_to_list p.sign) (p.whole ++ (fraction_text p.fraction ++ exponent_text p.exponent)) (sign_plain p.sign is.sign) (append_plain p.whole (fraction_text p.fraction ++ exponent_text p.exponent) (digits_plain (base r) p.whole (base_most r) is.whole) (append_plain (fraction_text p.fraction) (exponent_text p.exponent) (fraction_plain r p.fraction is.fraction) (exponent_plain r p.exponent is.exponent))) in
    subst Plain (sym h.beginning.text) plain

plain_has_none : (bs xs ys : List ℕ) → Plain bs → bs ≡ xs ++ underscore ∷ ys → ⊥
plain_has_none bs xs ys h e =
    let same : without_underscores xs ++ without_underscores ys ≡ xs ++ underscore ∷ ys = sym (without_append xs (underscore ∷ ys)) ∙ ap without_underscores (sym e) ∙ h ∙ e in
    omega (arith, ap length same, length-append (without_underscores xs) (without_underscores ys), length-append xs (underscore ∷ ys), without_shorter xs, without_shorter ys)

numeral_rest : (r : Radix) (bs : List ℕ) (p : Parts) → HasNumeral r bs p → begins_signed bs ≡ false → HasRest r bs p
numeral_rest r bs p h u =
    let plain = numeral_plain r bs p h in
    record {
      literal = record {
        beginning = subst (λ x. HasParts r x p) (sym plain) h.beginning;
        unsigned = ap begins_signed plain ∙ u;
        underscores = λ xs ys e q g. absurd (plain_has_none bs xs ys plain e);
      };
      numeral = subst (λ x. HasNumeral r x p) (sym plain) h;
    }

-- a text whose rest is a numeral without a sign is a literal
pub literal_of_numeral : (s : Bool) (bs : List ℕ) (r : Radix) (rest : List ℕ) → r ≡ literal_radix s bs → rest ≡ literal_rest s bs → IsNumeral r rest → begins_signed rest ≡ false → IsLiteral s bs
literal_of_numeral s bs r rest er eb (q, h) u =
    let bare : q ≡ record q { sign = None } = ap (λ (o : Option ℕ). record q { sign = o }) (no_sign r rest q.sign q.whole q.fraction q.exponent h.beginning u) in
    let here : HasRest r rest (record q { sign = None }) = subst (HasRest r rest) bare (numeral_rest r rest q h u) in
    (record q { sign = sign_of s bs }, record { sign = refl; rest = rw (er, eb) at here })

-- the numbers of such a literal, with the sign that was taken first
pub literal_numbers : (s : Bool) (bs : List ℕ) (r : Radix) (rest : List ℕ) (other negative : Bool) (whole fraction places : ℕ) (exponent : ℤ) (by_two : Bool) → r ≡ literal_radix s bs → rest ≡ literal_rest s bs → IsNumeral r rest → negative ≡ is_minus (sign_of s bs)
    → ((p : Parts) → HasNumeral r rest p → IsShortNumeral r p other whole fraction places exponent by_two)
    → (p : Parts) → HasLiteral s bs p → IsShortNumeral r p negative whole fraction places exponent by_two
literal_numbers s bs r rest other negative whole fraction places exponent by_two er eb (q, h) n short p is =
    let bare : HasNumeral r rest (record p { sign = None }) = subst (λ x. HasNumeral r x (record p { sign = None })) (numeral_plain r rest q h) (literal_rest_of s bs r rest p er eb is).numeral in
    let found = short (record p { sign = None }) bare in
    record {
      sign = n ∙ ap is_minus (sym is.sign);
      whole_number = found.whole_number;
      fraction_number = found.fraction_number;
      fraction_length = found.fraction_length;
      exponent_is = found.exponent_is;
      separator = found.separator;
      value = found.value;
    }
