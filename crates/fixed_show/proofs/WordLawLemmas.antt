-- A text is just one word or has just one fault.
use Rattle.std.proofs.Common.{◌≡◌, ◌∙◌, ℕ, ℤ, pos, List, [], ◌∷◌, Bool, true, false, length, refl, sym, ap, subst, arith, inl, inr, true≢false, if◌then◌else◌}
use Rattle.std.specs.Str.Parse.{AllDigits}
use Rattle.fixed_bits.proofs.Public.{image_one, range_decided}
use Rattle.fixed_bits.specs.Formats.{FormatParts}
use Rattle.fixed_bits.specs.Images.{IsWrapped}
use Rattle.fixed_bits.specs.Numbers.{with_sign}
use Rattle.fixed_bits.specs.Ranges.{IsInRange}
use Rattle.fixed_bits.specs.declared.format.Policy.TheVariants.{Wrapping}
use Rattle.fixed_numeral.specs.declared.radix.Radix.{Radix}
use Rattle.fixed_show.specs.WordLaws.{WordFaultIsTheOne, WordHasNoFault, WordIsTheOne}
use Rattle.fixed_show.specs.WordText.{HasWordFault, IsWord, IsWordText, has_minus, has_sign, without_sign}
use Rattle.fixed_show.specs.declared.words.WordFault.TheVariants.{MisplacedUnderscore, InvalidDigit, NoDigits, TooWide, OutOfRange}

pub unsigned_rest : (text : List ℕ) → has_sign text ≡ false → without_sign text ≡ text
unsigned_rest [] plain = refl
unsigned_rest (b ∷ bs) plain = ap (λ t. if t then bs else b ∷ bs) plain

plain_spelt : (bare : Radix) (text : List ℕ) (n : ℕ) → has_sign text ≡ false → IsWordText bare text n → IsWordText bare (without_sign text) n
plain_spelt bare text n plain is = subst (λ t. IsWordText bare t n) (sym (unsigned_rest text plain)) is

both : (b : Bool) → b ≡ false → b ≡ true → ⊥
both b off on = absurd (true≢false (sym on ∙ off))

-- a text that spells a number has none of the first three faults
spelt_first : (bare : Radix) (f : FormatParts) (text : List ℕ) (n : ℕ) → IsWordText bare (without_sign text) n → HasWordFault bare f text MisplacedUnderscore → ⊥
spelt_first bare f text n is fault = both _ is.first fault

spelt_digits : (bare : Radix) (f : FormatParts) (text : List ℕ) (n : ℕ) → IsWordText bare (without_sign text) n → HasWordFault bare f text InvalidDigit → ⊥
spelt_digits bare f text n is fault = fault.1 is.digits

spelt_some : (bare : Radix) (f : FormatParts) (text : List ℕ) (n : ℕ) → IsWordText bare (without_sign text) n → HasWordFault bare f text NoDigits → ⊥
spelt_some bare f text n is fault = absurd (omega (arith, is.some, ap length fault.1))

none_invalid : (r : ℕ) (ds : List ℕ) → ds ≡ [] → (¬ AllDigits r ds) → ⊥
none_invalid r ds none invalid = invalid (subst (AllDigits r) (sym none) tt)

-- ---- a text is one word
pub word_one : WordIsTheOne
word_one bare f text v w width (inl a) (inl b) =
    let same : a.word ≡ b.word = a.spells.number ∙ sym b.spells.number in
    image_one Wrapping f.signed f.width (pos b.word) v w width (subst (λ n. IsWrapped f.signed f.width (pos n) v) same a.is) b.is
word_one bare f text v w width (inl a) (inr b) = absurd (both _ a.plain b.signed)
word_one bare f text v w width (inr a) (inl b) = absurd (both _ b.plain a.signed)
word_one bare f text v w width (inr a) (inr b) = a.is ∙ ap (with_sign (has_minus text)) (a.spells.number ∙ sym b.spells.number) ∙ sym b.is

-- ---- a text has one fault
pub fault_one : WordFaultIsTheOne
fault_one bare f text MisplacedUnderscore MisplacedUnderscore x y = refl
fault_one bare f text MisplacedUnderscore InvalidDigit x y = absurd (both _ y.0 x)
fault_one bare f text MisplacedUnderscore NoDigits x y = absurd (both _ y.0 x)
fault_one bare f text MisplacedUnderscore TooWide x y = absurd (spelt_first bare f text y.number (plain_spelt bare text y.number y.plain y.spells) x)
fault_one bare f text MisplacedUnderscore OutOfRange x y = absurd (spelt_first bare f text y.size y.spells x)
fault_one bare f text InvalidDigit MisplacedUnderscore x y = absurd (both _ x.0 y)
fault_one bare f text InvalidDigit InvalidDigit x y = refl
fault_one bare f text InvalidDigit NoDigits x y = absurd (none_invalid _ _ y.1 x.1)
fault_one bare f text InvalidDigit TooWide x y = absurd (spelt_digits bare f text y.number (plain_spelt bare text y.number y.plain y.spells) x)
fault_one bare f text InvalidDigit OutOfRange x y = absurd (spelt_digits bare f text y.size y.spells x)
fault_one bare f text NoDigits MisplacedUnderscore x y = absurd (both _ x.0 y)
fault_one bare f text NoDigits InvalidDigit x y = absurd (none_invalid _ _ x.1 y.1)
fault_one bare f text NoDigits NoDigits x y = refl
fault_one bare f text NoDigits TooWide x y = absurd (spelt_some bare f text y.number (plain_spelt bare text y.number y.plain y.spells) x)
fault_one bare f text NoDigits OutOfRange x y = absurd (spelt_some bare f text y.size y.spells x)
fault_one bare f text TooWide MisplacedUnderscore x y = absurd (spelt_first bare f text x.number (plain_spelt bare text x.number x.plain x.spells) y)
fault_one bare f text TooWide InvalidDigit x y = absurd (spelt_digits bare f text x.number (plain_spelt bare text x.number x.plain x.spells) y)
fault_one bare f text TooWide NoDigits x y = absurd (spelt_some bare f text x.number (plain_spelt bare text x.number x.plain x.spells) y)
fault_one bare f text TooWide TooWide x y = refl
fault_one bare f text TooWide OutOfRange x y = absurd (both _ x.plain y.signed)
fault_one bare f text OutOfRange MisplacedUnderscore x y = absurd (spelt_first bare f text x.size x.spells y)
fault_one bare f text OutOfRange InvalidDigit x y = absurd (spelt_digits bare f text x.size x.spells y)
fault_one bare f text OutOfRange NoDigits x y = absurd (spelt_some bare f text x.size x.spells y)
fault_one bare f text OutOfRange TooWide x y = absurd (both _ y.plain x.signed)
fault_one bare f text OutOfRange OutOfRange x y = refl

-- ---- a word has no fault
spelt : (bare : Radix) (f : FormatParts) (text : List ℕ) (v : ℤ) → IsWord bare f text v → (n : ℕ) × IsWordText bare (without_sign text) n
spelt bare f text v (inl a) = (a.word, plain_spelt bare text a.word a.plain a.spells)
spelt bare f text v (inr a) = (a.size, a.spells)

pub no_fault : WordHasNoFault
no_fault bare f text MisplacedUnderscore v x y = spelt_first bare f text (spelt bare f text v y).0 (spelt bare f text v y).1 x
no_fault bare f text InvalidDigit v x y = spelt_digits bare f text (spelt bare f text v y).0 (spelt bare f text v y).1 x
no_fault bare f text NoDigits v x y = spelt_some bare f text (spelt bare f text v y).0 (spelt bare f text v y).1 x
no_fault bare f text TooWide v x (inl y) = absurd (omega (arith, x.wide, y.fits, x.spells.number, y.spells.number))
no_fault bare f text TooWide v x (inr y) = both _ x.plain y.signed
no_fault bare f text OutOfRange v x (inl y) = both _ y.plain x.signed
no_fault bare f text OutOfRange v x (inr y) =
    let same : v ≡ with_sign (has_minus text) x.size = y.is ∙ ap (with_sign (has_minus text)) (y.spells.number ∙ sym x.spells.number) in
    (range_decided f.signed f.width (with_sign (has_minus text) x.size)).1 x.out (subst (λ z. IsInRange f.signed f.width z) same y.in_range)
