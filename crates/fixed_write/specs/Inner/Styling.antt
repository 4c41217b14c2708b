-- Contracts of the private functions of styled text.
use Rattle.std.specs.Prelude.{◌≡◌, ℕ, ◌+◌, List, ◌++◌, length, take, drop, replicate, Option}
use Rattle.std.specs.List.{repeat}
use Rattle.fixed_write.specs.declared.style.Notation.{Notation}
use Rattle.fixed_write.specs.declared.style.Notation.TheVariants.{LowerExp, UpperExp}
use Rattle.fixed_write.specs.Texts.{zero_digit}
use Rattle.fixed_write.specs.Styled.{IsPointBody}

-- a body in its parts: digits, zeros after them, and a tail
abbrev pub body_text : List ℕ → ℕ → List ℕ → List ℕ
body_text digits zeros tail = digits ++ (replicate zeros zero_digit ++ tail)

-- fills, sign and prefix, zeros, the body, and fills
abbrev pub laid_out : List ℕ → ℕ → List ℕ → ℕ → List ℕ → ℕ → List ℕ
laid_out fill before prefix inner body after = repeat before fill
    ++ (prefix ++ (replicate inner zero_digit ++ (body ++ repeat after fill)))

-- the notations with a point and no exponent
abbrev pub IsPointNotation : Notation → Type 0
IsPointNotation LowerExp = ⊥
IsPointNotation UpperExp = ⊥
IsPointNotation _ = Unit {0}

-- after, followed by zeros, is before followed by the body
pub record AppendsBody (notation : Notation) (precision : Option ℕ) (c g : ℕ) (before after : List ℕ)
    (zeros : ℕ) : Type 0 where
  pub body : List ℕ
  pub is_body : IsPointBody notation precision c g body
  pub text : after ++ replicate zeros zero_digit ≡ before ++ body

-- new is old with part written from index `at` up to `end`; the bytes before and after it stay
pub record IsPut (part old new : List ℕ) (at end : ℕ) : Type 0 where
  pub place : end ≡ at + length part
  pub text : take end new ≡ take at old ++ part
  pub rest : drop end new ≡ drop end old
