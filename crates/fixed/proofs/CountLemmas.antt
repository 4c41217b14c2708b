-- Decimal numbers of 64 bits, as `parse` reads them.
use Rattle.std.proofs.Common.{◌≡◌, ◌≢◌, ℕ, ◌^◌, ◌<◌, Bool, List, length, get_or, sym, ap, subst, arith, zero, drop, cond, ◌∙◌}
use Rattle.std.specs.Fmt.{decimal}
use Rattle.std.specs.Str.Parse.{AllDigits, IsNumeral, digits_value, without_leading_plus}
use Rattle.std.proofs.lemmas.Fmt.{decimal_is_IsNumeral, decimal-digits_value, decimal_digit, first_decimal}
use Rattle.std.proofs.lemmas.Str.Parse.{IsNumeralModel, digit_at, numerals_by_value, tells_digits}
use Rattle.std.specs.Int.{IsInRange}
use borrow.Author.Tests.{ne_eqb}

own : IsNumeralModel (AllDigits 10) (digits_value 10)
own = numerals_by_value (AllDigits 10) tells_digits

pub no_plus : (word : List ℕ) → get_or word 0 0 ≢ 43 → without_leading_plus word ≡ word
no_plus word ne = ap (λ (b : Bool). drop (cond b 1 0) word) (ne_eqb (get_or word 0 0) 43 ne)

-- a numeral without a plus and without leading zeros is the decimal form of its value
pub read_is : (word : List ℕ) (n : ℕ) → get_or word 0 0 ≢ 43 → (get_or word 0 0 ≡ 48 → length word ≡ 1)
    → IsNumeral 10 (without_leading_plus word) → digits_value 10 (without_leading_plus word) < 2 ^ 64
    → n ≡ digits_value 10 (without_leading_plus word) → word ≡ decimal n
read_is word n ne lead numeral small is =
    let same = no_plus word ne in
    let plain : IsNumeral 10 word = subst (IsNumeral 10) same numeral in
    let value : n ≡ digits_value 10 word = is ∙ ap (digits_value 10) same in
    let fits : digits_value 10 word < 2 ^ 64 = subst (λ (l : List ℕ). digits_value 10 l < 2 ^ 64) same small in
    sym (ap decimal value ∙ decimal-digits_value own word plain.1 plain.0 lead fits)

-- a decimal number does not start with a plus, and starts with a zero only if it is zero
pub record IsReadable (word : List ℕ) : Type 0 where
  pub no_sign : get_or word 0 0 ≢ 43
  pub lead : get_or word 0 0 ≡ 48 → length word ≡ 1
  pub numeral : IsNumeral 10 (without_leading_plus word)
  pub small : digits_value 10 (without_leading_plus word) < 2 ^ 64

lead_is : (n : ℕ) → n < 2 ^ 64 → get_or (decimal n) 0 0 ≡ 48 → length (decimal n) ≡ 1
lead_is zero h e = ap length (decimal_digit 0 (omega arith))
lead_is n h e = absurd (omega (arith, first_decimal n (omega arith) h))

pub readable : (n : ℕ) → n < 2 ^ 64 → IsReadable (decimal n)
readable n h =
    let d = decimal_is_IsNumeral n h in
    let at : IsInRange 48 57 (get_or (decimal n) 0 0) = digit_at (decimal n) 0 d.0.1 d.0.0 in
    let ne : get_or (decimal n) 0 0 ≢ 43 = λ e. omega (arith, at, e) in
    let same = no_plus (decimal n) ne in
    record {
      no_sign = ne;
      lead = lead_is n h;
      numeral = subst (IsNumeral 10) (sym same) d.0;
      small = subst (λ (l : List ℕ). digits_value 10 l < 2 ^ 64) (sym same) (omega (arith, d.1));
    }
