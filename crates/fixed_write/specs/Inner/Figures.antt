-- Contracts of the private functions that find the figures of a number with an exponent.
use Rattle.std.specs.Prelude.{◌≡◌, ℕ, suc, ◌+◌, ◌*◌, ◌^◌, ◌<◌, ◌≤◌, ◌⊎◌, Bool, true, false, List, ◌++◌, replicate, ℤ}
use Rattle.std.specs.Prelude.{pos, Option, unwrap_or}
use Rattle.fixed_bits.specs.Nearest.{IsNearest}
use Rattle.fixed_write.specs.declared.style.Notation.{Notation}
use Rattle.fixed_write.specs.Texts.{zero_digit, whole_digits}
use Rattle.fixed_write.specs.Styled.{IsShortFigures, IsFigures, IsExponentBody, IsBody}

-- c units of 2^-64 times 10^s are a + b / 2^64, whose first digit is at 10^t
pub record IsLeading (c a b t s : ℕ) : Type 0 where
  pub scaled : c * 10 ^ s ≡ a * 2 ^ 64 + b
  pub low : 10 ^ t ≤ a
  pub high : a < 10 ^ suc t
  pub few : t ≤ 19
  pub shift : s ≤ 20
  pub one : (s ≡ 0) ⊎ (t ≡ 0)

-- digits, and zeros after them, are the figures of c units of 2^-64, whose first digit is at 10^t, to p places after
-- the first; carried says whether they reached the next power of ten
pub record HasRoundedFigures (p c t : ℕ) (digits : List ℕ) (zeros : ℕ) (carried : Bool) : Type 0 where
  pub number : ℕ
  pub near : IsNearest (c * 10 ^ p) (2 ^ 64 * 10 ^ t) number
  pub kept : carried ≡ false → (number ≡ 10 ^ suc p → ⊥) × (digits ++ replicate zeros zero_digit
      ≡ whole_digits 10 false number)
  pub raised : carried ≡ true → (number ≡ 10 ^ suc p) × (digits ++ replicate zeros zero_digit
      ≡ whole_digits 10 false (10 ^ p))

-- digits are the figures of the shortest decimal of c ulps of 2^-g, and e is its exponent
pub record HasShortFigures (c g : ℕ) (digits : List ℕ) (e : ℤ) : Type 0 where
  pub figures : ℕ
  pub are_figures : IsShortFigures c g figures e
  pub digits_are : digits ≡ whole_digits 10 false figures

-- digits, and zeros after them, are the figures of c ulps of 2^-g, even if c is 0, and e is the exponent
pub record HasFigureText (precision : Option ℕ) (c g : ℕ) (digits : List ℕ) (zeros : ℕ) (e : ℤ) : Type 0 where
  pub zero : c ≡ 0 → (digits ++ replicate zeros zero_digit ≡ replicate (suc (unwrap_or precision 0)) zero_digit)
      × (e ≡ pos 0)
  pub some : 0 < c → (m : ℕ) × IsFigures precision c g m e ×
      (digits ++ replicate zeros zero_digit ≡ whole_digits 10 false m)

-- digits, zeros after them, and a tail are the body of a number with an exponent
pub record HasExponentBody (notation : Notation) (precision : Option ℕ) (c g : ℕ) (digits : List ℕ) (zeros : ℕ)
    (tail : List ℕ) : Type 0 where
  pub body : List ℕ
  pub is_body : IsExponentBody notation precision c g body
  pub text : digits ++ (replicate zeros zero_digit ++ tail) ≡ body

-- digits, zeros after them, and a tail are the body of a number
pub record HasBody (notation : Notation) (precision : Option ℕ) (c g : ℕ) (digits : List ℕ) (zeros : ℕ)
    (tail : List ℕ) : Type 0 where
  pub body : List ℕ
  pub is_body : IsBody notation precision c g body
  pub text : digits ++ (replicate zeros zero_digit ++ tail) ≡ body
