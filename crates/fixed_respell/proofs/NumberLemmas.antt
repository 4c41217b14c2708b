-- Numbers in decimal.
use Rattle.std.proofs.Common.{◌≡◌, ℕ, ◌^◌, ◌<◌, ◌≤◌, List, length, get_or, sym, ap, subst, arith, zero, take, length-take}
use Rattle.std.specs.Fmt.{decimal}
use Rattle.std.specs.Str.Parse.{AllDigits, digits_value}
use Rattle.std.proofs.lemmas.Fmt.{decimal_is_IsNumeral, length-decimal-le, first_decimal, decimal_digit, decimal-digits_value}
use Rattle.std.proofs.lemmas.Str.Parse.{IsNumeralModel, numerals_by_value, tells_digits, digits_value_short}

own : IsNumeralModel (AllDigits 10) (digits_value 10)
own = numerals_by_value (AllDigits 10) tells_digits

-- `word` has the properties of the decimal digits of n
pub record IsPlain (word : List ℕ) (n : ℕ) : Type 0 where
  pub some : 0 < length word
  pub short : length word ≤ 10
  pub no_spare : get_or word 0 0 ≡ 48 → length word ≡ 1
  pub digits : AllDigits 10 word
  pub value : digits_value 10 word ≡ n

no_spare_zero : (n : ℕ) → n < 2 ^ 64 → get_or (decimal n) 0 0 ≡ 48 → length (decimal n) ≡ 1
no_spare_zero zero h e = ap length (decimal_digit 0 (omega arith))
no_spare_zero n h e = absurd (omega (arith, first_decimal n (omega arith) h))

pub plain : (word : List ℕ) (n : ℕ) → n < 10 ^ 10 → word ≡ decimal n → IsPlain word n
plain word n small e =
    let fits : n < 2 ^ 64 = omega arith in
    let d = decimal_is_IsNumeral n fits in
    let P : List ℕ → Type 0 = λ w. IsPlain w n in
    subst P (sym e) (record {
      some = d.0.0;
      short = length-decimal-le 10 n (omega arith) small fits;
      no_spare = no_spare_zero n fits;
      digits = d.0.1;
      value = d.1;
    })

-- digits without a leading zero are the decimal digits of their number
pub plain_is : (word : List ℕ) → 0 < length word → length word ≤ 10 → (get_or word 0 0 ≡ 48 → length word ≡ 1) → AllDigits 10 word → word ≡ decimal (digits_value 10 word)
plain_is word some short no_spare digits =
    let below : digits_value 10 word < 10 ^ 10 = digits_value_short own word 10 digits short in
    let fits : digits_value 10 word < 2 ^ 64 = omega arith in
    sym (decimal-digits_value own word digits some no_spare fits)

-- up to ten digits stay within 64 bits while they are read
pub room : (word : List ℕ) (i : ℕ) → length word ≤ 10 → i < length word → AllDigits 10 (take i word) → digits_value 10 (take i word) < 10 ^ 9
room word i short at digits = digits_value_short own (take i word) 9 digits (omega (arith, length-take i word))
