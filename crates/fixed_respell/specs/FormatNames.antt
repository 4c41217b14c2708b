-- The names of formats of any width and fraction length.
use Rattle.std.specs.Prelude.{◌≡◌, ◌⊎◌, ◌+◌, ◌<◌, ◌≤◌, ℕ, Bool, true, false, List, [], ◌∷◌, ◌++◌, decimal}
use Rattle.fixed_bits.specs.Formats.{FormatParts, IsFormat}
use Rattle.fixed_respell.specs.Words.{counts_text, fraction_letter, sign_letter}

-- a letter, by its capital, in either case
abbrev pub IsLetter : ℕ → ℕ → Type 0
IsLetter capital byte = (byte ≡ capital) ⊎ (byte ≡ capital + 32)

abbrev pub q_letter : ℕ
q_letter = 81

-- the byte between the counts of ARM's notation
abbrev pub point : ℕ
point = 46

-- I or U, whole bits (with a minus if they are negative), F, fraction bits
pub record IsCountedName (word : List ℕ) (f : FormatParts) : Type 0 where
  pub sign : ℕ
  pub is_sign : IsLetter (sign_letter f.signed) sign
  pub mark : ℕ
  pub is_mark : IsLetter fraction_letter mark
  pub text : word ≡ sign ∷ counts_text mark f

-- Q for a signed format, UQ for an unsigned one
abbrev pub IsQ : Bool → List ℕ → Type 0
IsQ true head = (q : ℕ) × IsLetter q_letter q × (head ≡ q ∷ [])
IsQ false head = (u : ℕ) × (q : ℕ) × IsLetter (sign_letter false) u × IsLetter q_letter q × (head ≡ u ∷ q ∷ [])

-- Q or UQ, whole bits, a point, fraction bits, by ARM's counting: the whole bits include the sign bit, and they are not
-- negative
pub record IsPointedName (word : List ℕ) (f : FormatParts) : Type 0 where
  pub head : List ℕ
  pub is_head : IsQ f.signed head
  pub within : f.frac ≤ f.width
  pub sign_bit : f.signed ≡ true → f.frac < f.width
  pub text : word ≡ head ++ counts_text point f

-- Q and fraction bits: the sign bit is the only whole bit
pub record IsFractionName (word : List ℕ) (f : FormatParts) : Type 0 where
  pub q : ℕ
  pub is_q : IsLetter q_letter q
  pub signed : f.signed ≡ true
  pub sign_bit : f.width ≡ f.frac + 1
  pub text : word ≡ q ∷ decimal f.frac

-- the word names the format, and at most one, as a law says
pub record IsFormatName (word : List ℕ) (f : FormatParts) : Type 0 where
  pub format : IsFormat f.width f.frac
  pub named : IsCountedName word f ⊎ IsPointedName word f ⊎ IsFractionName word f
