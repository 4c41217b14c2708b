-- The outcome for a list of numerals, and the text written about it.
use Rattle.std.specs.Prelude.{◌≡◌, ◌⊎◌, ◌+◌, ◌≤◌, ◌<◌, ℕ, List, [], ◌∷◌, ◌++◌, length, get_or, codes, decimal, true}
use Rattle.std.specs.Prelude.{false}
use Rattle.fixed_bits.specs.Formats.{FormatParts, IsTypeFormat}
use Rattle.fixed_numeral.specs.Cause.{HasCause}
use Rattle.fixed_numeral.specs.Messages.{message_of}
use Rattle.fixed_numeral.specs.declared.error.ParseErrorKind.{ParseErrorKind}
use Rattle.fixed_numeral.specs.declared.radix.Radix.{Radix}
use Rattle.line_engine.specs.Lines.{lines}
use Rattle.line_engine.specs.Output.{written_of}
use Rattle.line_engine.specs.AnswerText.{AnswerText}
use Rattle.fixed_respell.specs.Words.{format_text}
use Rattle.fixed_least.specs.Holding.{AllHold, AllNumerals, IsFirstRefused}
use Rattle.fixed_bits.specs.Order.{rank}
use Rattle.fixed_least.specs.declared.least.LeastFault.{LeastFault}
use Rattle.fixed_least.specs.declared.least.LeastFault.TheVariants.{NotNumeral}

-- `places` has, for each format before the least, the first place whose numeral it does not hold
pub record IsLeast (r : Radix) (lines : List (List ℕ)) (places : List ℕ) : Type 0 where
  pub short : length places ≤ 248
  pub numerals : AllNumerals r lines
  pub refutes : (f : FormatParts) → IsTypeFormat f.width f.frac → rank f < length places
      → IsFirstRefused r f lines (get_or places (rank f) 0)
  pub holds : (f : FormatParts) → IsTypeFormat f.width f.frac → rank f ≡ length places → AllHold r f lines

abbrev pub place_of : LeastFault → ℕ
place_of (NotNumeral place error) = place

abbrev pub kind_at : LeastFault → ParseErrorKind
kind_at (NotNumeral place error) = error

-- `fault` has the number, from 1, of the first line that is not a numeral, and why it is not
pub record IsNoNumeral (r : Radix) (lines : List (List ℕ)) (fault : LeastFault) : Type 0 where
  pub before : List (List ℕ)
  pub line : List ℕ
  pub after : List (List ℕ)
  pub split : lines ≡ before ++ line ∷ after
  pub numerals : AllNumerals r before
  pub cause : HasCause r line (kind_at fault)
  pub place_is : place_of fault ≡ length before + 1

-- the line that names the least format
abbrev pub IsHeadText : List ℕ → List ℕ → Type 0
IsHeadText places text = ((length places ≡ 248) × (text ≡ codes "none"))
    ⊎ ((f : FormatParts) × IsTypeFormat f.width f.frac × (rank f ≡ length places)
    × (text ≡ codes "least " ++ format_text f))

-- the line that refutes the format of rank k
abbrev pub IsRefutedText : List ℕ → ℕ → List ℕ → Type 0
IsRefutedText places k text = (f : FormatParts) × IsTypeFormat f.width f.frac × (rank f ≡ k)
    × (text ≡ format_text f ++ (codes " line " ++ decimal (get_or places k 0)))

-- line i about an outcome
pub record IsLeastLine (places : List ℕ) (i : ℕ) (answer : AnswerText) : Type 0 where
  pub head : i ≡ 0 → IsHeadText places answer.text
  pub refuted : (k : ℕ) → i ≡ k + 1 → IsRefutedText places k answer.text
  pub fault : answer.fault ≡ false

-- the lines from number k on
abbrev pub AreLines : List ℕ → ℕ → List AnswerText → Type 0
AreLines places k [] = Unit {0}
AreLines places k (answer ∷ answers) = IsLeastLine places k answer × AreLines places (k + 1) answers

-- all lines about an outcome, each with a newline
pub record IsLeastText (places text : List ℕ) : Type 0 where
  pub answers : List AnswerText
  pub are_lines : AreLines places 0 answers
  pub count : length answers ≡ length places + 1
  pub text_is : text ≡ written_of answers

-- the text written for a line that is not a numeral
abbrev pub fault_line : LeastFault → List ℕ
fault_line why = codes "error: line "
    ++ (decimal (place_of why) ++ (codes ": " ++ (message_of (kind_at why) ++ 10 ∷ [])))

-- the answer to an input that is a list of numerals
pub record IsLeastAnswer (r : Radix) (input : List ℕ) (answer : AnswerText) : Type 0 where
  pub places : List ℕ
  pub least : IsLeast r (lines input) places
  pub text : IsLeastText places answer.text
  pub fault : answer.fault ≡ false

-- the answer to an input with a line that is not a numeral
pub record IsFaultAnswer (r : Radix) (input : List ℕ) (answer : AnswerText) : Type 0 where
  pub why : LeastFault
  pub is_none : IsNoNumeral r (lines input) why
  pub text : answer.text ≡ fault_line why
  pub fault : answer.fault ≡ true

-- the answer is the answer to the input
abbrev pub IsWholeAnswer : Radix → List ℕ → AnswerText → Type 0
IsWholeAnswer r input answer = IsLeastAnswer r input answer ⊎ IsFaultAnswer r input answer
