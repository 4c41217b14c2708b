-- The words of a line.
use Rattle.std.specs.Prelude.{◌≡◌, ℕ, ◌⊎◌, Bool, true, false, IsTrue, List, ◌∷◌, ◌++◌, codes, decimal}
use Rattle.std.specs.Fmt.{signed_decimal}
use Rattle.fixed_bits.specs.Formats.{FormatParts, IsTypeFormat, whole_length}
use Rattle.fixed_bits.specs.declared.format.Policy.{Policy}
use Rattle.fixed_bits.specs.declared.format.Policy.TheVariants.{Checked, Saturating, Wrapping, Symmetric}
use Rattle.fixed_bits.specs.declared.mode.ReadMode.{ReadMode}
use Rattle.fixed_bits.specs.declared.mode.ReadMode.TheVariants.{NearestEven, Floor, Ceil, TowardsZero}
use Rattle.fixed_bits.specs.declared.mode.ReadMode.TheVariants.{NearestAway, NearestZero, NearestUp, NearestDown}
use Rattle.fixed_bits.specs.declared.mode.ReadMode.TheVariants.{AwayFromZero}
use Rattle.fixed_numeral.specs.declared.radix.Radix.{Radix}
use Rattle.fixed_numeral.specs.declared.radix.Radix.TheVariants.{Bin, Oct, Dec, Hex}

-- the word of a radix
abbrev pub radix_text : Radix → List ℕ
radix_text Bin = codes "2"
radix_text Oct = codes "8"
radix_text Dec = codes "10"
radix_text Hex = codes "16"

-- 'I' for signed, 'U' for unsigned
abbrev pub sign_letter : Bool → ℕ
sign_letter true = 73
sign_letter false = 85

-- 'F', between the counts of whole and of fraction bits
abbrev pub fraction_letter : ℕ
fraction_letter = 70

-- the count of whole bits, a byte, and the count of fraction bits
abbrev pub counts_text : ℕ → FormatParts → List ℕ
counts_text mark f = signed_decimal (whole_length f) ++ mark ∷ decimal f.frac

-- the word of a format: I16F16, U0F8, or I-9F25 with 16 bits
abbrev pub format_text : FormatParts → List ℕ
format_text f = sign_letter f.signed ∷ counts_text fraction_letter f

-- word is the word of the format f, which has the width of an integer type
pub record IsFormatWord (word : List ℕ) (f : FormatParts) : Type 0 where
  pub format : IsTypeFormat f.width f.frac
  pub text : word ≡ format_text f

-- the word of a policy
abbrev pub policy_text : Policy → List ℕ
policy_text Checked = codes "checked"
policy_text Saturating = codes "saturating"
policy_text Wrapping = codes "wrapping"
policy_text Symmetric = codes "symmetric"

-- whether a line can name the policy
abbrev pub is_line_policy : Policy → Bool
is_line_policy Checked = true
is_line_policy Saturating = true
is_line_policy Wrapping = true
is_line_policy Symmetric = false

-- word names the policy, in a line
abbrev pub IsLinePolicy : List ℕ → Policy → Type 0
IsLinePolicy word policy = (word ≡ policy_text policy) × IsTrue (is_line_policy policy)

-- the word of a mode
abbrev pub mode_text : ReadMode → List ℕ
mode_text NearestEven = codes "nearest"
mode_text NearestAway = codes "ties-away"
mode_text NearestZero = codes "ties-zero"
mode_text NearestUp = codes "ties-up"
mode_text NearestDown = codes "ties-down"
mode_text Floor = codes "floor"
mode_text Ceil = codes "ceil"
mode_text TowardsZero = codes "zero"
mode_text AwayFromZero = codes "away"

-- whether a line can name the mode
abbrev pub is_line_mode : ReadMode → Bool
is_line_mode NearestEven = true
is_line_mode NearestAway = false
is_line_mode NearestZero = false
is_line_mode NearestUp = false
is_line_mode NearestDown = false
is_line_mode Floor = true
is_line_mode Ceil = true
is_line_mode TowardsZero = true
is_line_mode AwayFromZero = false

-- word names the mode, in a line
abbrev pub IsModeWord : List ℕ → ReadMode → Type 0
IsModeWord word mode = (word ≡ mode_text mode) × IsTrue (is_line_mode mode)

-- '/', between a policy and a mode
abbrev pub slash : ℕ
slash = 47

-- word names only the policy, in a line, and the mode is NearestEven, as if there were no mode words
abbrev pub IsPlainWord : List ℕ → Policy → ReadMode → Type 0
IsPlainWord word policy mode = IsLinePolicy word policy × (mode ≡ NearestEven)

-- word names one of the four policies and one of the nine modes; the mode is NearestEven if it names none
abbrev pub IsPolicyName : List ℕ → Policy → ReadMode → Type 0
IsPolicyName word policy mode = ((word ≡ policy_text policy) × (mode ≡ NearestEven))
    ⊎ (word ≡ policy_text policy ++ slash ∷ mode_text mode)

-- word names them in a line, which can name three of the policies and four of the modes
abbrev pub IsPolicyWord : List ℕ → Policy → ReadMode → Type 0
IsPolicyWord word policy mode = IsPlainWord word policy mode
    ⊎ ((word ≡ policy_text policy ++ slash ∷ mode_text mode) × IsTrue (is_line_policy policy)
    × IsTrue (is_line_mode mode))
