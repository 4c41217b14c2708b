-- The remaining fraction lengths of a sign rule and a width.
use Rattle.std.specs.Prelude.{◌≡◌, ◌+◌, ◌-◌, ◌*◌, ◌^◌, ◌<◌, ◌≤◌, ◌&&◌, ℕ, Bool, true}
use Rattle.std.specs.Prelude.{pos, false, List, [], ◌∷◌, ◌++◌, if◌then◌else◌, nat_lt, codes}
use Rattle.line_engine.specs.AnswerText.{AnswerText}
use Rattle.fixed_bits.specs.Formats.{FormatParts}
use Rattle.fixed_fit.specs.Answer.{format_of, name_of, none_line, ruled_out_line}
use Rattle.fixed_fit.specs.ErrorWord.{IsErrorWord}
use Rattle.fixed_fit.specs.declared.question.Question.{Question}
use Rattle.fixed_numeral.specs.declared.radix.Radix.{Radix}
use Rattle.fixed_numeral.specs.declared.short.ShortNumeral.{ShortNumeral}
use Rattle.fixed_error.specs.Short.{IsShortRead}
use Rattle.fixed_fit.specs.declared.short.FlatDecimal.{FlatDecimal}
use Rattle.fixed_fit.specs.Fitting.{AllFit, Exceeds, Fits, IsFirstExceeding, frac_lengths}
use Rattle.fixed_fit.specs.declared.lengths.Lengths.{Lengths}
use Rattle.fixed_fit.specs.declared.question.Fractions.{Fractions}

-- each line fits with exactly the remaining fraction lengths, and the place is that of the first line that is out
-- of range with the next longer one, or 0 if no length may be chosen
pub record AreLengths (a : Fractions) (r : Radix) (lines : List (List ℕ)) (l : Lengths) : Type 0 where
  pub most : l.count ≤ frac_lengths a l.kind.width
  pub few : l.count ≤ 65
  pub fit : (f : ℕ) → f < l.count → AllFit r l.kind.signed l.kind.width f lines
  pub never : frac_lengths a l.kind.width ≡ 0 → l.place ≡ 0
  pub first : l.count < frac_lengths a l.kind.width
      → IsFirstExceeding r l.kind.signed l.kind.width l.count lines l.place

-- the lengths after the line at a place
pub record AreLowered (r : Radix) (line : List ℕ) (place : ℕ) (old new : Lengths) : Type 0 where
  pub kind : new.kind ≡ old.kind
  pub fewer : new.count ≤ old.count
  pub fit : (f : ℕ) → f < new.count → Fits r old.kind.signed old.kind.width f line
  pub same : new.count ≡ old.count → new.place ≡ old.place
  pub exceeds : new.count < old.count → Exceeds r old.kind.signed old.kind.width new.count line
  pub noted : new.count < old.count → new.place ≡ place

-- the most bits that a magnitude has in the formats of a sign rule and a width
abbrev pub magnitude_bits : Bool → ℕ → ℕ
magnitude_bits true n = n - 1
magnitude_bits false n = n

-- with the longest remaining fraction length, a short decimal is an ulp or more below the end of the range
abbrev pub HasRoom : Lengths → ShortNumeral → Type 0
HasRoom l n = (f : ℕ) → f + 1 ≡ l.count → (n.whole * 10 ^ n.places + n.fraction) * 2 ^ f + 10 ^ n.places
    ≤ 2 ^ magnitude_bits l.kind.signed l.kind.width * 10 ^ n.places

-- each number of at most this many parts of 10^-18 is an ulp or more below the end of the range
abbrev pub IsRoomOf : ℕ → Lengths → Type 0
IsRoomOf k l = (f : ℕ) → f + 1 ≡ l.count → k * 2 ^ f + 10 ^ 18
    ≤ 2 ^ magnitude_bits l.kind.signed l.kind.width * 10 ^ 18

-- a short decimal is at most this many parts of 10^-18
abbrev pub IsPartsOf : ℕ → ShortNumeral → Type 0
IsPartsOf parts n = (n.whole * 10 ^ n.places + n.fraction) * 10 ^ 18 ≤ parts * 10 ^ n.places

-- the fraction of a short decimal is a whole number of ulps of 2^-f
abbrev pub IsWholeFraction : ShortNumeral → ℕ → Type 0
IsWholeFraction n f = (count : ℕ) × (n.fraction * 2 ^ f ≡ count * 10 ^ n.places)

-- a short decimal without an exponent
pub record IsFlatDecimal (d : FlatDecimal) : Type 0 where
  pub exponent : d.decimal.exponent ≡ pos 0
  pub parts : IsPartsOf d.parts d.decimal

-- a numeral was read as such a decimal
pub record IsFlatRead (r : Radix) (line : List ℕ) (d : FlatDecimal) : Type 0 where
  pub read : IsShortRead r line d.decimal
  pub flat : IsFlatDecimal d

-- a short decimal has room, and the format allows its sign
pub record IsSurelyLeft (l : Lengths) (n : ShortNumeral) : Type 0 where
  pub sign : (f : ℕ) → f + 1 ≡ l.count → n.negative ≡ true → l.kind.signed ≡ true
  pub room : HasRoom l n

-- the written reason: the line that rules out the next longer fraction length
abbrev pub reason_of : Fractions → Bool → Bool → ℕ → ℕ → ℕ → List ℕ
reason_of a asked s n f place = if asked && nat_lt (f + 1) (frac_lengths a n) then ruled_out_line s n (f + 1) place
    else []

-- the answer that names a format by its kind and its fraction length
pub record IsSomeAnswer (q : Question) (list : List (List ℕ)) (kind : FormatParts) (f place : ℕ)
    (answer : AnswerText) : Type 0 where
  pub error : List ℕ
  pub is_error : IsErrorWord q.is_range q.radix (format_of kind.signed kind.width f) list error
  pub text : answer.text ≡ name_of kind.signed kind.width f
      ++ (codes " error " ++ (error ++ 10 ∷ reason_of q.fractions q.is_reason_asked kind.signed kind.width f place))
  pub fault : answer.fault ≡ false

-- the answer from these remaining lengths
pub record IsLengthsAnswer (q : Question) (list : List (List ℕ)) (l : Lengths) (answer : AnswerText) : Type 0 where
  pub none_text : l.count ≡ 0 → answer.text ≡ none_line l.place
  pub none_fault : l.count ≡ 0 → answer.fault ≡ true
  pub some : (f : ℕ) → l.count ≡ f + 1 → IsSomeAnswer q list l.kind f l.place answer
