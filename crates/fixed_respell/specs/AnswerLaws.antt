-- Laws of the answer to a line.
use Rattle.std.specs.Prelude.{◌≡◌, ◌↔◌, ◌<◌, ℕ, List, [], length, take, get_or}
use Rattle.fixed_bits.specs.Formats.{FormatParts}
use Rattle.fixed_bits.specs.declared.format.Policy.{Policy}
use Rattle.fixed_bits.specs.declared.mode.ReadMode.{ReadMode}
use Rattle.fixed_bits.specs.declared.mode.ReadMode.TheVariants.{NearestEven}
use Rattle.fixed_respell.specs.FormatNames.{IsFormatName}
use Rattle.fixed_respell.specs.Answer.{Asks, IsAnswer, IsNamedAnswer, IsPlainAnswer, Task}
use Rattle.line_engine.specs.Lines.{kept_length}
use Rattle.fixed_respell.specs.LineWords.{HasWords}
use Rattle.line_engine.specs.AnswerText.{AnswerText}
use Rattle.fixed_respell.specs.Split.{count_of}
use Rattle.fixed_respell.specs.Words.{IsFormatWord, IsPlainWord, IsPolicyWord, policy_text, slash}

-- a word is the word of at most one format, so the word of a format names that format again
abbrev pub FormatWordIsTheOne : Type 0
FormatWordIsTheOne = (word : List ℕ) (f g : FormatParts) → IsFormatWord word f → IsFormatWord word g → f ≡ g

-- a word names at most one format, so a name of a format names that format again
abbrev pub FormatNameIsTheOne : Type 0
FormatNameIsTheOne = (word : List ℕ) (f g : FormatParts) → IsFormatName word f → IsFormatName word g → f ≡ g

-- the word of a format is a name of it
abbrev pub FormatWordIsAName : Type 0
FormatWordIsAName = (word : List ℕ) (f : FormatParts) → IsFormatWord word f → IsFormatName word f

-- a line has at most one answer
abbrev pub AnswerIsTheOne : Type 0
AnswerIsTheOne = (line : List ℕ) (a b : AnswerText) → IsAnswer line a → IsAnswer line b → a ≡ b

-- a line has at most one answer with all names of formats and all modes
abbrev pub NamedAnswerIsTheOne : Type 0
NamedAnswerIsTheOne = (line : List ℕ) (a b : AnswerText) → IsNamedAnswer line a → IsNamedAnswer line b → a ≡ b

-- with them, a line that asks for a task in the words of the programs has the same answer
abbrev pub NamedAnswerIsTheAnswer : Type 0
NamedAnswerIsTheAnswer = (line : List ℕ) (t : Task) (reply : AnswerText) → Asks line t
    → IsNamedAnswer line reply ↔ IsAnswer line reply

-- a line longer than `kept_length` is answered like its first `kept_length` bytes
abbrev pub LongIsAnsweredByPrefix : Type 0
LongIsAnsweredByPrefix = (line : List ℕ) (reply : AnswerText) → kept_length < length line
    → IsAnswer (take kept_length line) reply ↔ IsAnswer line reply

-- a policy word without a slash is the name of a policy, and its mode is NearestEven
abbrev pub PlainWordNamesNearest : Type 0
PlainWordNamesNearest = (word : List ℕ) (p : Policy) (m : ReadMode) → count_of slash word ≡ 0
    → IsPolicyWord word p m ↔ IsPlainWord word p m

-- so a line whose fourth word has no slash names its policy by that word only, and its mode is NearestEven
abbrev pub PlainLineAsksNearest : Type 0
PlainLineAsksNearest = (line : List ℕ) (t : Task) (asks : Asks line t) → count_of slash asks.policy_word ≡ 0
    → (asks.policy_word ≡ policy_text t.policy) × (t.mode ≡ NearestEven)

-- the fourth word of the line, if any, has no slash
abbrev pub IsPlainLine : List ℕ → Type 0
IsPlainLine line = (words : List (List ℕ)) (rest : List ℕ) → HasWords line words rest → length words ≡ 4
    → count_of slash (get_or words 3 []) ≡ 0

-- a plain line is answered as if there were no mode words
abbrev pub PlainLineHasThePlainAnswer : Type 0
PlainLineHasThePlainAnswer = (line : List ℕ) (reply : AnswerText) → IsPlainLine line
    → IsAnswer line reply ↔ IsPlainAnswer line reply
