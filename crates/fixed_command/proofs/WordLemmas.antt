-- Printed bits are a register word of the format.
use Rattle.std.proofs.Common.{◌≡◌, ◌∙◌, ◌==◌, ◌||◌, ◌+◌, ◌-◌, ◌*◌, ◌/◌, ◌%◌, ◌^◌, ◌<◌, ◌≤◌, ℕ, zero, suc, ℤ, pos, negsuc, List, [], ◌∷◌, ◌++◌, Bool, true, false, if◌then◌else◌, Option, Some, None, is_some, drop, length, codes, refl, sym, ap, subst, arith, inl, inr, mod-eq_of_lt, mod-lt, pow-suc, pow_pos}
use Rattle.std.specs.Char.{digit_value}
use Rattle.std.specs.Fmt.{decimal, digit_glyph, signed_decimal}
use Rattle.std.specs.Str.Parse.{AllDigits, digits_value}
use Rattle.std.proofs.lemmas.Bool.{eqb-true}
use Rattle.std.proofs.lemmas.Fmt.{decimal_is_IsNumeral}
use Rattle.std.proofs.lemmas.Int.{ints}
use Rattle.std.proofs.lemmas.Int.Digits.{digits_push, digits_value_push}
use Rattle.std.proofs.Math.Arith.{mod-mul}
use Rattle.std.proofs.Math.Nat.{one-le-pow, mod-one, pow-le-pow_right, pow-zero}
use Rattle.fixed_bits.proofs.Public.{in_wide, width_most}
use Rattle.fixed_bits.specs.Formats.{FormatParts}
use Rattle.fixed_bits.specs.Images.{DiffersByMultiple}
use Rattle.fixed_bits.specs.Ranges.{IsInRange, IsWidth}
use Rattle.fixed_numeral.proofs.Public.{pow-mul}
use Rattle.fixed_numeral.specs.Literal.{without_underscores}
use Rattle.fixed_numeral.specs.Numeral.{base, is_sign}
use Rattle.fixed_numeral.specs.declared.radix.Radix.{Radix}
use Rattle.fixed_numeral.specs.declared.radix.Radix.TheVariants.{Bin, Oct, Dec, Hex}
use Rattle.fixed_show.specs.WordText.{IsWord, IsWordText, after_prefix, begins_with_underscore, binary_letter, has_sign, letter_radix, prefix_radix, radix_or, word_digits, word_radix}
use Rattle.fixed_write.specs.Texts.{last_digits}
use Rattle.fixed_write.proofs.Public.{last_digits_length, last_digits_none, last_digits_suc}
use Rattle.fixed_command.specs.Hex.{hex_digits, hex_text, word_of}
use Rattle.fixed_command.specs.Laws.{PrintedBitsAreWords}

-- ---- digits are not signs or prefix letters
no_eq : (b c : ℕ) → (b ≡ c → ⊥) → (b == c) ≡ false
no_eq b c other = decide (b == c) refl
  where
    decide : (t : Bool) → (b == c) ≡ t → (b == c) ≡ false
    decide true e = absurd (other (eqb-true b c e))
    decide false e = e

not_letter : (r b c : ℕ) → digit_value b < r → r ≤ digit_value c → (b == c) ≡ false
not_letter r b c low high = no_eq b c (λ e. let same : digit_value b ≡ digit_value c = ap digit_value e in omega (arith, low, high, same))

neither : (p q : Bool) → p ≡ false → q ≡ false → (p || q) ≡ false
neither p q e f = ap (λ t. t || q) e ∙ f

digit_unsigned : (b : ℕ) → digit_value b < 16 → is_sign b ≡ false
digit_unsigned b low = neither (b == 43) (b == 45) (not_letter 16 b 43 low (omega arith)) (not_letter 16 b 45 low (omega arith))

last_none : (t : Bool) (o : Option Radix) → t ≡ false → (if t then o else None) ≡ None
last_none t o e = ap (λ u. if u then o else None) e

letters : (bare : Radix) (b : ℕ) → digit_value b < 16 → (if (b == 98) || (b == 66) then binary_letter bare else None) ≡ None → letter_radix bare b ≡ None
letters bare b low last =
    let x = neither (b == 120) (b == 88) (not_letter 16 b 120 low (omega arith)) (not_letter 16 b 88 low (omega arith)) in
    let o = neither (b == 111) (b == 79) (not_letter 16 b 111 low (omega arith)) (not_letter 16 b 79 low (omega arith)) in
    let rest : Option Radix = if (b == 98) || (b == 66) then binary_letter bare else None in
    ap (λ t. if t then Some Hex else (if (b == 111) || (b == 79) then Some Oct else rest)) x ∙ (ap (λ t. if t then Some Oct else rest) o ∙ last)

same_none : (t : Bool) → (if t then binary_letter Hex else None) ≡ None
same_none true = refl
same_none false = refl

hex_letter : (b : ℕ) → digit_value b < 16 → letter_radix Hex b ≡ None
hex_letter b low = letters Hex b low (same_none ((b == 98) || (b == 66)))

decimal_letter : (b : ℕ) → digit_value b < 10 → letter_radix Dec b ≡ None
decimal_letter b low =
    letters Dec b (omega (arith, low)) (last_none ((b == 98) || (b == 66)) (Some Bin) (neither (b == 98) (b == 66) (not_letter 10 b 98 low (omega arith)) (not_letter 10 b 66 low (omega arith))))

-- ---- lists of digits
no_underscores : (ds : List ℕ) → AllDigits 16 ds → without_underscores ds ≡ ds
no_underscores [] all = refl
no_underscores (b ∷ bs) all =
    ap (λ t. if t then without_underscores bs else b ∷ without_underscores bs) (not_letter 16 b 95 all.0 (omega arith)) ∙ ap (λ t. b ∷ t) (no_underscores bs all.1)

no_first : (ds : List ℕ) → AllDigits 16 ds → begins_with_underscore ds ≡ false
no_first [] all = refl
no_first (b ∷ bs) all = not_letter 16 b 95 all.0 (omega arith)

no_sign : (ds : List ℕ) → AllDigits 16 ds → has_sign ds ≡ false
no_sign [] all = refl
no_sign (b ∷ bs) all = digit_unsigned b all.0

by_zero : (t : Bool) (o : Option Radix) → o ≡ None → (if t then o else None) ≡ None
by_zero true o e = e
by_zero false o e = refl

hex_prefix : (ds : List ℕ) → AllDigits 16 ds → prefix_radix Hex ds ≡ None
hex_prefix [] all = refl
hex_prefix (a ∷ []) all = refl
hex_prefix (a ∷ b ∷ bs) all = by_zero (a == 48) (letter_radix Hex b) (hex_letter b all.1.0)

decimal_prefix : (ds : List ℕ) → AllDigits 10 ds → prefix_radix Dec ds ≡ None
decimal_prefix [] all = refl
decimal_prefix (a ∷ []) all = refl
decimal_prefix (a ∷ b ∷ bs) all = by_zero (a == 48) (letter_radix Dec b) (decimal_letter b all.1.0)

wider : (ds : List ℕ) → AllDigits 10 ds → AllDigits 16 ds
wider [] all = tt
wider (b ∷ bs) all = (omega (arith, all.0), wider bs all.1)

-- digits without a prefix
plain_word : (bare : Radix) (ds : List ℕ) (n : ℕ) → prefix_radix bare ds ≡ None → AllDigits 16 ds → AllDigits (base bare) ds → 0 < length ds → digits_value (base bare) ds ≡ n → IsWordText bare ds n
plain_word bare ds n none all digits some value =
    let radix : word_radix bare ds ≡ bare = ap (radix_or bare) none in
    let rest : after_prefix bare ds ≡ ds = ap (λ p. if is_some p then drop 2 ds else ds) none in
    let bytes : word_digits bare ds ≡ ds = ap without_underscores rest ∙ no_underscores ds all in
    record {
      first = no_first ds all;
      digits = subst (λ r. AllDigits (base r) (word_digits bare ds)) (sym radix) (subst (AllDigits (base bare)) (sym bytes) digits);
      some = omega (arith, some, ap length bytes);
      number = sym value ∙ ap (digits_value (base bare)) (sym bytes) ∙ ap (λ r. digits_value (base r) (word_digits bare ds)) (sym radix);
    }

-- digits after `0x`
hex_word : (bare : Radix) (ds : List ℕ) (n : ℕ) → AllDigits 16 ds → 0 < length ds → digits_value 16 ds ≡ n → IsWordText bare (codes "0x" ++ ds) n
hex_word bare ds n all some value =
    let bytes : without_underscores ds ≡ ds = no_underscores ds all in
    record {
      first = refl;
      digits = subst (AllDigits 16) (sym bytes) all;
      some = omega (arith, some, ap length bytes);
      number = sym value ∙ ap (digits_value 16) (sym bytes);
    }

-- ---- the printed digits
glyph_value : (d : ℕ) → d < 16 → digit_value (digit_glyph false d) ≡ d
glyph_value d h = grind arith

last_all : (k n : ℕ) → AllDigits 16 (last_digits 16 false k n)
last_all zero n = rw last_digits_none tt
last_all (suc k) n =
    let small : n % 16 < 16 = mod-lt n (omega arith) in
    rw last_digits_suc (digits_push 16 (last_digits 16 false k (n / 16)) (digit_glyph false (n % 16)) (last_all k (n / 16)) (omega (arith, glyph_value (n % 16) small)))

last_value : (k n : ℕ) → digits_value 16 (last_digits 16 false k n) ≡ n % 16 ^ k
last_value zero n = rw (last_digits_none, pow-zero) (sym (mod-one n))
last_value (suc k) n =
    let sixteen : 0 < 16 = omega arith in
    let small : n % 16 < 16 = mod-lt n sixteen in
    let some : 0 < 16 ^ k = one-le-pow k 16 sixteen in
    let value : digit_value (digit_glyph false (n % 16)) ≡ n % 16 = glyph_value (n % 16) small in
    let split = mod-mul n {m = 16 ^ k} {c = 16} some sixteen in
    rw last_digits_suc (digits_value_push 16 (last_digits 16 false k (n / 16)) (digit_glyph false (n % 16)) ∙ rw (last_value k (n / 16), value, pow-suc 16 k) (sym split))

-- ---- bits as an unsigned number
pub record IsWordOf (n : ℕ) (v : ℤ) : Type 0 where
  pub fits : word_of n v < 2 ^ n
  pub near : DiffersByMultiple (2 ^ n) v (pos (word_of n v))

word_at : (signed : Bool) (n h : ℕ) (v : ℤ) → 2 ^ n ≡ 2 * h → 2 ^ (n - 1) ≡ h → 0 < h → IsInRange signed n v → IsWordOf n v
word_at true n h (pos a) whole half some range = record { fits = omega (arith, ints, range.high, whole, half); near = (0, 0, refl) }
word_at true n h (negsuc a) whole half some range =
    let least : suc a ≤ h = omega (arith, ints, range.low, half) in
    record { fits = omega (arith, whole, least, some); near = (1, 0, omega (arith, ints, whole, least)) }
word_at false n h (pos a) whole half some range = record { fits = omega (arith, ints, range.high, whole); near = (0, 0, refl) }
word_at false n h (negsuc a) whole half some range = absurd (omega (arith, ints, range.low))

word_is : (signed : Bool) (n : ℕ) (v : ℤ) → IsWidth n → IsInRange signed n v → IsWordOf n v
word_is signed n v width range =
    let some : 0 < n = width.some in
    let up : suc (n - 1) ≡ n = omega (arith, some) in
    let whole : 2 ^ n ≡ 2 * 2 ^ (n - 1) = omega (arith, pow-suc 2 (n - 1), ap (λ k. 2 ^ k) up) in
    word_at signed n (2 ^ (n - 1)) v whole refl (pow_pos (n - 1)) range

pub record HasHexDigits (n : ℕ) : Type 0 where
  pub most : 2 ^ n ≤ 16 ^ ((n + 3) / 4)
  pub some : 0 < (n + 3) / 4

digit_count : (n : ℕ) → IsWidth n → HasHexDigits n
digit_count n width =
    let some : 0 < n = width.some in
    let enough : n ≤ 4 * ((n + 3) / 4) = omega arith in
    let power : 2 ^ n ≤ 2 ^ (4 * ((n + 3) / 4)) = pow-le-pow_right {n = 2} (omega arith) enough in
    let same : 16 ^ ((n + 3) / 4) ≡ 2 ^ (4 * ((n + 3) / 4)) = pow-mul 2 4 ((n + 3) / 4) in
    record { most = omega (arith, power, same); some = omega (arith, some) }

hex_value : (n : ℕ) (v : ℤ) → IsWidth n → word_of n v < 2 ^ n → digits_value 16 (hex_digits n v) ≡ word_of n v
hex_value n v width fits =
    let below : word_of n v < 16 ^ ((n + 3) / 4) = omega (arith, fits, (digit_count n width).most) in
    last_value ((n + 3) / 4) (word_of n v) ∙ mod-eq_of_lt below

hex_some : (n : ℕ) (v : ℤ) → IsWidth n → 0 < length (hex_digits n v)
hex_some n v width = omega (arith, (digit_count n width).some, last_digits_length 16 false ((n + 3) / 4) (word_of n v))

-- ---- register words
printed_decimal : (f : FormatParts) (v : ℤ) → IsWidth f.width → IsInRange f.signed f.width v → IsWord Dec f (signed_decimal v) v
printed_decimal f (pos n) width range =
    let word = word_is f.signed f.width (pos n) width range in
    let wide = in_wide f.signed f.width (pos n) (width_most f.width width) range in
    let digits = decimal_is_IsNumeral n (omega (arith, ints, wide.high)) in
    let all : AllDigits 16 (decimal n) = wider (decimal n) digits.0.1 in
    inl (record {
      plain = no_sign (decimal n) all;
      word = n;
      spells = plain_word Dec (decimal n) n (decimal_prefix (decimal n) digits.0.1) all digits.0.1 digits.0.0 digits.1;
      fits = word.fits;
      is = record { in_range = range; near = word.near };
    })
printed_decimal f (negsuc n) width range =
    let wide = in_wide f.signed f.width (negsuc n) (width_most f.width width) range in
    let digits = decimal_is_IsNumeral (suc n) (omega (arith, ints, wide.low)) in
    let all : AllDigits 16 (decimal (suc n)) = wider (decimal (suc n)) digits.0.1 in
    inr (record {
      signed = refl;
      size = suc n;
      spells = plain_word Dec (decimal (suc n)) (suc n) (decimal_prefix (decimal (suc n)) digits.0.1) all digits.0.1 digits.0.0 digits.1;
      is = refl;
      in_range = range;
    })

-- a number in hexadecimal after `0x`, with enough digits for it
pub spelled_number : (bare : Radix) (k n : ℕ) → 0 < k → n < 16 ^ k → IsWordText bare (codes "0x" ++ last_digits 16 false k n) n
spelled_number bare k n some below =
    hex_word bare (last_digits 16 false k n) n (last_all k n) (omega (arith, some, last_digits_length 16 false k n)) (last_value k n ∙ mod-eq_of_lt below)

-- all bits of a register word in hexadecimal after `0x`, with enough digits for them
pub spelled_word : (f : FormatParts) (bare : Radix) (k : ℕ) (v : ℤ) → IsWidth f.width → IsInRange f.signed f.width v → 0 < k → 2 ^ f.width ≤ 16 ^ k → IsWord bare f (codes "0x" ++ last_digits 16 false k (word_of f.width v)) v
spelled_word f bare k v width range some most =
    let word = word_is f.signed f.width v width range in
    let w : ℕ = word_of f.width v in
    let below : w < 16 ^ k = omega (arith, word.fits, most) in
    inl (record {
      plain = refl;
      word = w;
      spells = spelled_number bare k w some below;
      fits = word.fits;
      is = record { in_range = range; near = word.near };
    })

pub word_fits : (f : FormatParts) (v : ℤ) → IsWidth f.width → IsInRange f.signed f.width v → word_of f.width v < 2 ^ f.width
word_fits f v width range = (word_is f.signed f.width v width range).fits

printed_hex : (f : FormatParts) (bare : Radix) (v : ℤ) → IsWidth f.width → IsInRange f.signed f.width v → IsWord bare f (hex_text f.width v) v
printed_hex f bare v width range = spelled_word f bare ((f.width + 3) / 4) v width range (digit_count f.width width).some (digit_count f.width width).most

printed_bare : (f : FormatParts) (v : ℤ) → IsWidth f.width → IsInRange f.signed f.width v → IsWord Hex f (hex_digits f.width v) v
printed_bare f v width range =
    let word = word_is f.signed f.width v width range in
    let ds = hex_digits f.width v in
    let all : AllDigits 16 ds = last_all ((f.width + 3) / 4) (word_of f.width v) in
    inl (record {
      plain = no_sign ds all;
      word = word_of f.width v;
      spells = plain_word Hex ds (word_of f.width v) (hex_prefix ds all) all all (hex_some f.width v width) (hex_value f.width v width word.fits);
      fits = word.fits;
      is = record { in_range = range; near = word.near };
    })

pub printed_words : PrintedBitsAreWords
printed_words f bits answer text is range = record {
  decimal = printed_decimal f bits is.is_width range;
  hexadecimal = λ bare. printed_hex f bare bits is.is_width range;
  bare = printed_bare f bits is.is_width range;
}
