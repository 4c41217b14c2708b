-- Digits with underscores.
use Rattle.std.proofs.Common.{◌≡◌, ◌==◌, ◌^◌, ⊎_elim, inl, inr, ℕ, ℤ, pos, ◌+◌, ◌*◌, ◌<◌, ◌≤◌, Bool, true, false, true≢false, if◌then◌else◌, refl, List, [], ◌∷◌, ◌++◌, length, take, drop, get_or, min, ap, sym, subst, ◌∙◌, arith, length-append, take-append-drop}
use Rattle.std.proofs.Math.Nat.{mul-le-mul_right}
use Rattle.std.proofs.lemmas.Bool.{cases_lt}
use Rattle.std.proofs.lemmas.Bool.Decides.{nat_tests}
use Rattle.std.proofs.lemmas.List.{take_more, drop_more, append-nil}
use Rattle.std.proofs.lemmas.Int.Digits.{digits_value_push}
use Rattle.std.proofs.lemmas.Int.{ints}
use Rattle.std.specs.Char.{digit_value}
use Rattle.std.specs.Str.Parse.{AllDigits, digits_value}
use Rattle.fixed_bits.proofs.Public.{ends_wide}
use Rattle.fixed_bits.specs.Formats.{FormatParts}
use Rattle.fixed_bits.specs.Images.{IsWrapped}
use Rattle.fixed_bits.specs.Numbers.{with_sign}
use Rattle.fixed_bits.specs.Ranges.{IsInRange, IsOutOfRange, IsWide, greatest, lowest}
use Rattle.fixed_numeral.proofs.Public.{without_append}
use Rattle.fixed_numeral.specs.Numeral.{base}
use Rattle.fixed_numeral.specs.declared.radix.Radix.{Radix}
use Rattle.fixed_numeral.specs.declared.radix.Radix.TheVariants.{Bin, Oct, Dec, Hex}
use Rattle.fixed_numeral.specs.Literal.{without_underscores}
use Rattle.fixed_show.specs.Inner.Words.{IsCutOff}
use Rattle.fixed_show.specs.WordText.{IsOutside, IsWord, has_minus, has_sign, without_sign}

-- a number capped at c, with one more digit
pub cut_off : (v b d c : ℕ) → 0 < b → min (min v c * b + d) c ≡ min (v * b + d) c
cut_off v b d c some = ⊎_elim low high (cases_lt v c)
  where
    low : v < c → min (min v c * b + d) c ≡ min (v * b + d) c
    low h = let e : min v c ≡ v = omega arith in ap (λ t. min (t * b + d) c) e

    high : c ≤ v → min (min v c * b + d) c ≡ min (v * b + d) c
    high h =
        let one : c * 1 ≤ c * b = grind arith in
        let more : c * b ≤ v * b = mul-le-mul_right b h in
        let e : min v c ≡ c = omega arith in
        let f : min (c * b + d) c ≡ min (v * b + d) c = omega (arith, one, more) in
        ap (λ t. min (t * b + d) c) e ∙ f

other : (b : ℕ) (bs : List ℕ) → (b ≡ 95 → ⊥) → without_underscores (b ∷ bs) ≡ b ∷ without_underscores bs
other b bs u = grind (arith, nat_tests)

-- one more byte
split_at : (bs : List ℕ) (i : ℕ) → i < length bs → bs ≡ take i bs ++ get_or bs i 0 ∷ drop (i + 1) bs
split_at bs i h = sym (take-append-drop i bs) ∙ ap (λ t. take i bs ++ t) (drop_more bs i 0 h)

pub without_more_underscore : (bs : List ℕ) (i : ℕ) → i < length bs → get_or bs i 0 ≡ 95 → without_underscores (take (i + 1) bs) ≡ without_underscores (take i bs)
without_more_underscore bs i h e = ap without_underscores (take_more bs i 0 h) ∙ without_append (take i bs) (get_or bs i 0 ∷ []) ∙ ap (λ t. without_underscores (take i bs) ++ without_underscores (t ∷ [])) e ∙ append-nil (without_underscores (take i bs))

pub without_more_other : (bs : List ℕ) (i : ℕ) → i < length bs → (get_or bs i 0 ≡ 95 → ⊥) → without_underscores (take (i + 1) bs) ≡ without_underscores (take i bs) ++ get_or bs i 0 ∷ []
without_more_other bs i h e = ap without_underscores (take_more bs i 0 h) ∙ without_append (take i bs) (get_or bs i 0 ∷ []) ∙ ap (λ t. without_underscores (take i bs) ++ t) (other (get_or bs i 0) [] e)

all_digits_push : (r : ℕ) (ds : List ℕ) (b : ℕ) → AllDigits r ds → digit_value b < r → AllDigits r (ds ++ b ∷ [])
all_digits_push r [] b all h = (h, tt)
all_digits_push r (d ∷ ds) b all h = (all.0, all_digits_push r ds b all.1 h)

all_digits_at : (r : ℕ) (xs : List ℕ) (b : ℕ) (ys : List ℕ) → AllDigits r (xs ++ b ∷ ys) → digit_value b < r
all_digits_at r [] b ys all = all.0
all_digits_at r (x ∷ xs) b ys all = all_digits_at r xs b ys all.1

-- `number` is the number of the digits, capped at c
pub record HasNumber (r : ℕ) (bs : List ℕ) (number c : ℕ) : Type 0 where
  pub digits : AllDigits r (without_underscores bs)
  pub number_is : number ≡ min (digits_value r (without_underscores bs)) c

pub number_underscore : (r : ℕ) (bs : List ℕ) (i n c b : ℕ) → i < length bs → b ≡ get_or bs i 0 → b ≡ 95 → HasNumber r (take i bs) n c → HasNumber r (take (i + 1) bs) n c
number_underscore r bs i n c b h e u p = let s = without_more_underscore bs i h (sym e ∙ u) in record { digits = subst (AllDigits r) (sym s) p.digits; number_is = p.number_is ∙ ap (λ ds. min (digits_value r ds) c) (sym s) }

pub number_digit : (r : ℕ) (bs : List ℕ) (i n c b d m : ℕ) → i < length bs → b ≡ get_or bs i 0 → (b ≡ 95 → ⊥) → 0 < r → d ≡ digit_value b → d < r → m ≡ min (n * r + d) c → HasNumber r (take i bs) n c → HasNumber r (take (i + 1) bs) m c
number_digit r bs i n c b d m h e u some v l q p =
    let s : without_underscores (take (i + 1) bs) ≡ without_underscores (take i bs) ++ b ∷ [] = without_more_other bs i h (λ z. u (e ∙ z)) ∙ ap (λ t. without_underscores (take i bs) ++ t ∷ []) (sym e) in
    let small : digit_value b < r = omega (arith, v, l) in
    record {
      digits = subst (AllDigits r) (sym s) (all_digits_push r (without_underscores (take i bs)) b p.digits small);
      number_is = q ∙ ap (λ t. min (t * r + d) c) p.number_is ∙ cut_off (digits_value r (without_underscores (take i bs))) r d c some
          ∙ ap (λ t. min (digits_value r (without_underscores (take i bs)) * r + t) c) v ∙ ap (λ t. min t c) (sym (digits_value_push r (without_underscores (take i bs)) b)) ∙ ap (λ ds. min (digits_value r ds) c) (sym s);
    }

-- a byte other than an underscore
with_other : (bs : List ℕ) (i : ℕ) → i < length bs → (get_or bs i 0 ≡ 95 → ⊥) → without_underscores bs ≡ without_underscores (take i bs) ++ get_or bs i 0 ∷ without_underscores (drop (i + 1) bs)
with_other bs i h u = ap without_underscores (split_at bs i h) ∙ without_append (take i bs) (get_or bs i 0 ∷ drop (i + 1) bs) ∙ ap (λ t. without_underscores (take i bs) ++ t) (other (get_or bs i 0) (drop (i + 1) bs) u)

pub no_number : (r : ℕ) (bs : List ℕ) (i b : ℕ) → i < length bs → b ≡ get_or bs i 0 → (b ≡ 95 → ⊥) → r ≤ digit_value b → AllDigits r (without_underscores bs) → ⊥
no_number r bs i b h e u l all =
    let w = all_digits_at r (without_underscores (take i bs)) (get_or bs i 0) (without_underscores (drop (i + 1) bs)) (subst (AllDigits r) (with_other bs i h (λ z. u (e ∙ z))) all) in
    let s : digit_value b ≡ digit_value (get_or bs i 0) = ap digit_value e in
    omega (arith, w, s, l)

-- a text with a byte other than an underscore is not empty without its underscores
pub some_digit : (bs : List ℕ) (i b : ℕ) → i < length bs → b ≡ get_or bs i 0 → (b ≡ 95 → ⊥) → 0 < length (without_underscores bs)
some_digit bs i b h e u = omega (arith, ap length (with_other bs i h (λ z. u (e ∙ z))), length-append (without_underscores (take i bs)) (get_or bs i 0 ∷ without_underscores (drop (i + 1) bs)))

pub base_some : (r : Radix) → 0 < base r
base_some Bin = omega arith
base_some Oct = omega arith
base_some Dec = omega arith
base_some Hex = omega arith

-- ---- words of a format
-- a number capped at 2^64 is whole if it is below 2^64
uncut : (number c : ℕ) → c ≡ min number 18446744073709551616 → c < 18446744073709551616 → number ≡ c
uncut number c cut small = omega (arith, cut, small)

pub plain_is : (bare : Radix) (f : FormatParts) (text : List ℕ) (c limit : ℕ) (v : ℤ) → has_sign text ≡ false → IsCutOff bare text c → limit ≡ 2 ^ f.width → limit ≤ 18446744073709551616 → c < limit → IsWrapped f.signed f.width (pos c) v → IsWord bare f text v
plain_is bare f text c limit v plain is limit_is most below wrapped =
    let same : is.number ≡ c = uncut is.number c is.cut (omega (arith, most, below)) in
    inl (record {
      plain = plain;
      word = is.number;
      spells = is.spells;
      fits = omega (arith, same, below, limit_is);
      is = subst (λ n. IsWrapped f.signed f.width (pos n) v) (sym same) wrapped;
    })

pub sign_rest : (text : List ℕ) → has_sign text ≡ true → without_sign text ≡ drop 1 text
sign_rest [] signed = refl
sign_rest (b ∷ bs) signed = ap (λ t. if t then bs else b ∷ bs) signed

pub minus_is : (text : List ℕ) → has_sign text ≡ true → (get_or text 0 0 == 45) ≡ has_minus text
minus_is [] signed = absurd (true≢false (sym signed))
minus_is (b ∷ bs) signed = refl

small_size : (negative : Bool) (c : ℕ) → IsWide (with_sign negative c) → c < 18446744073709551616
small_size true c wide = omega (arith, ints, wide.low)
small_size false c wide = omega (arith, ints, wide.high)

pub signed_is : (bare : Radix) (f : FormatParts) (text : List ℕ) (c : ℕ) (v : ℤ) → has_sign text ≡ true → IsCutOff bare (without_sign text) c → v ≡ with_sign (has_minus text) c → IsInRange f.signed f.width v → IsWide v → IsWord bare f text v
signed_is bare f text c v signed is value range wide =
    let small : c < 18446744073709551616 = small_size (has_minus text) c (subst IsWide value wide) in
    let same : is.number ≡ c = uncut is.number c is.cut small in
    inr (record { signed = signed; size = is.number; spells = is.spells; is = value ∙ ap (with_sign (has_minus text)) (sym same); in_range = range })

huge_out : (negative signed : Bool) (n number : ℕ) → IsWide (lowest signed n) → IsWide (greatest signed n) → 18446744073709551616 ≤ number → IsOutOfRange signed n (with_sign negative number)
huge_out true signed n number low high huge = inl (omega (arith, ints, low.low, huge))
huge_out false signed n number low high huge = inr (omega (arith, ints, high.high, huge))

pub outside_is : (bare : Radix) (f : FormatParts) (text : List ℕ) (c : ℕ) (v : ℤ) → f.width ≤ 64 → has_sign text ≡ true → IsCutOff bare (without_sign text) c → v ≡ with_sign (has_minus text) c → IsOutOfRange f.signed f.width v → IsOutside bare f text
outside_is bare f text c v most signed is value out =
    let wide = ends_wide f.signed f.width most in
    let size_out : IsOutOfRange f.signed f.width (with_sign (has_minus text) is.number) = ⊎_elim
    (λ (small : is.number < 18446744073709551616).
    let same : is.number ≡ c = omega (arith, is.cut, small) in
    subst (λ z. IsOutOfRange f.signed f.width z) (value ∙ ap (with_sign (has_minus text)) (sym same)) out)
    (λ (huge : 18446744073709551616 ≤ is.number). huge_out (has_minus text) f.signed f.width is.number wide.0 wide.1 huge)
    (cases_lt is.number 18446744073709551616) in
    record { signed = signed; size = is.number; spells = is.spells; out = size_out }
