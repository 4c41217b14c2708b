-- Named literals whose formats have names that a constants file does not take, such as `Q15`.
use Rattle.std.specs.Prelude.{◌≡◌, ◌⊎◌, ℕ, List, [], ◌∷◌, ◌++◌, length}
use Rattle.fixed_bits.specs.Formats.{FormatParts, IsTypeFormat}
use Rattle.fixed_names.specs.Names.{IsName}
use Rattle.fixed_respell.specs.LineWords.{HasWords, spaced}
use Rattle.fixed_respell.specs.Words.{format_text}
use Rattle.line_engine.specs.AnswerText.{AnswerText}
use Rattle.line_engine.specs.Lines.{lines}

-- what comes after the third space of a line names the format of a type in any way
pub record HasTypeName (line : List ℕ) (f : FormatParts) : Type 0 where
  pub words : List (List ℕ)
  pub three : length words ≡ 3
  pub word : List ℕ
  pub has : HasWords line words word
  pub name : IsName word f
  pub format : IsTypeFormat f.width f.frac

-- the line has the name that a constants file takes in the place of that name
pub record IsRenamed (line renamed : List ℕ) : Type 0 where
  pub format : FormatParts
  pub named : HasTypeName line format
  pub text : renamed ≡ spaced named.words (format_text format)

-- any other line stays as it is
abbrev pub IsRenamedLine : List ℕ → List ℕ → Type 0
IsRenamedLine line renamed = IsRenamed line renamed
    ⊎ (((f : FormatParts) → ¬ HasTypeName line f) × (renamed ≡ line))

-- the text is these lines, renamed, each with a newline
abbrev pub AreRenamed : List (List ℕ) → List ℕ → Type 0
AreRenamed [] text = text ≡ []
AreRenamed (line ∷ more) text = (renamed : List ℕ) × (rest : List ℕ) × IsRenamedLine line renamed × AreRenamed more rest
    × (text ≡ renamed ++ 10 ∷ rest)

-- by the meaning `A` of an answer, the answer is that to the renamed lines of an input
pub record IsRenamedAnswer (A : List ℕ → AnswerText → Type 0) (input : List ℕ) (answer : AnswerText) : Type 0 where
  pub text : List ℕ
  pub renamed : AreRenamed (lines input) text
  pub answers : A text answer
