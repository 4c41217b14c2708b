-- The rest of a format's name after its letters.
use Rattle.std.specs.Prelude.{◌≡◌, ◌⊎◌, ◌+◌, ◌-◌, ◌<◌, ◌≤◌, ℕ, Bool, true, false, List, ◌∷◌, ◌++◌, decimal}
use Rattle.fixed_bits.specs.Formats.{FormatParts, IsFormat}
use Rattle.fixed_respell.specs.FormatNames.{IsLetter, point, q_letter}
use Rattle.fixed_respell.specs.Words.{counts_text, fraction_letter}

-- two counts with a byte between them
abbrev pub two_counts : ℕ → ℕ → ℕ → List ℕ
two_counts mark whole frac = decimal whole ++ mark ∷ decimal frac

-- a format with this sign rule
pub record IsSigned (signed : Bool) (f : FormatParts) : Type 0 where
  pub format : IsFormat f.width f.frac
  pub signed_is : f.signed ≡ signed

-- whole bits, F, fraction bits
pub record IsCounted (signed : Bool) (rest : List ℕ) (f : FormatParts) : Type 0 where
  pub is : IsSigned signed f
  pub mark : ℕ
  pub is_mark : IsLetter fraction_letter mark
  pub text : rest ≡ counts_text mark f

-- the same if the count of whole bits is not negative
pub record IsCountedWithin (signed : Bool) (rest : List ℕ) (f : FormatParts) : Type 0 where
  pub is : IsSigned signed f
  pub within : f.frac ≤ f.width
  pub mark : ℕ
  pub is_mark : IsLetter fraction_letter mark
  pub text : rest ≡ two_counts mark (f.width - f.frac) f.frac

-- after a minus: the bits by which the fraction is longer than the width, F, fraction bits
pub record IsCountedBeyond (signed : Bool) (rest : List ℕ) (f : FormatParts) : Type 0 where
  pub is : IsSigned signed f
  pub beyond : f.width < f.frac
  pub mark : ℕ
  pub is_mark : IsLetter fraction_letter mark
  pub text : rest ≡ two_counts mark (f.frac - f.width) f.frac

-- whole bits, a point, fraction bits
pub record IsPointed (signed : Bool) (rest : List ℕ) (f : FormatParts) : Type 0 where
  pub is : IsSigned signed f
  pub within : f.frac ≤ f.width
  pub sign_bit : signed ≡ true → f.frac < f.width
  pub text : rest ≡ counts_text point f

-- fraction bits
pub record IsFraction (rest : List ℕ) (f : FormatParts) : Type 0 where
  pub is : IsSigned true f
  pub sign_bit : f.width ≡ f.frac + 1
  pub text : rest ≡ decimal f.frac

-- Q, whole bits, a point, fraction bits
pub record IsPointedByQ (rest : List ℕ) (f : FormatParts) : Type 0 where
  pub q : ℕ
  pub is_q : IsLetter q_letter q
  pub counts : List ℕ
  pub head : rest ≡ q ∷ counts
  pub pointed : IsPointed false counts f

-- the rest of a name after Q, and after U
abbrev pub IsAfterQ : List ℕ → FormatParts → Type 0
IsAfterQ rest f = IsPointed true rest f ⊎ IsFraction rest f

abbrev pub IsAfterU : List ℕ → FormatParts → Type 0
IsAfterU rest f = IsCounted false rest f ⊎ IsPointedByQ rest f
