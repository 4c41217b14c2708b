-- The words of a text, each converted in its place.
use Rattle.std.specs.Prelude.{◌≡◌, ◌&&◌, ◌||◌, ◌++◌, ◌==◌, ℕ, Bool, true, false, List, [], ◌∷◌, codes, not}
use Rattle.std.specs.Prelude.{if◌then◌else◌, length, nat_le, take}
use Rattle.std.specs.Char.{is_ascii_whitespace}
use Rattle.std.specs.List.{list_any}
use Rattle.std.specs.Str.{bytes_eq}
use Rattle.line_engine.specs.AnswerText.{AnswerText}
use Rattle.fixed_command.specs.Convert.{IsReply}
use Rattle.fixed_respell.specs.LineWords.{longest_line}
use Rattle.fixed_respell.specs.Language.{fault_answer}
use Rattle.fixed_words.specs.declared.rule.Ending.{Ending}
use Rattle.fixed_words.specs.declared.rule.Ending.TheVariants.{Converted, Left, Refused}
use Rattle.fixed_words.specs.declared.rule.Leaving.{Leaving}
use Rattle.fixed_words.specs.declared.rule.Leaving.TheVariants.{Everything, NoNumerals, Nothing}
use Rattle.fixed_words.specs.declared.rule.WordRule.{WordRule}

-- whether a byte separates words: ASCII white space, or one of these
abbrev pub is_separator : List ℕ → ℕ → Bool
is_separator others byte = is_ascii_whitespace byte || list_any (λ b. b == byte) others

-- none of the bytes separates words
abbrev pub HasNoSeparator : List ℕ → List ℕ → Type 0
HasNoSeparator others [] = Unit {0}
HasNoSeparator others (b ∷ bytes) = (is_separator others b ≡ false) × HasNoSeparator others bytes

-- whether a refusal says that a number is out of range
abbrev pub is_overflow : List ℕ → Bool
is_overflow text = bytes_eq text (codes "error: overflow")

-- the longest word that may stay, in bytes
abbrev pub longest_left : ℕ
longest_left = 524288

-- whether a word refused with this text stays as it was: never, if it is not a numeral, or always; a word longer than
-- the longest that may stay does not
abbrev pub is_left : Leaving → List ℕ → List ℕ → Bool
is_left Nothing word text = false
is_left NoNumerals word text = nat_le (length word) longest_left && not (is_overflow text)
is_left Everything word text = nat_le (length word) longest_left

-- the text written for a word with this reply, and whether the word is refused: the reply or, for a refusal, the word
-- itself or a token
abbrev pub answer_of : WordRule → List ℕ → AnswerText → AnswerText
answer_of rule word reply = if not reply.fault then reply else (if is_left rule.leaves word reply.text
    then record { text = word; fault = false } else record { text = rule.token; fault = true })

-- the same, by how the word ended
abbrev pub shown : Ending → WordRule → List ℕ → List ℕ → AnswerText
shown Converted rule word reply = record { text = reply; fault = false }
shown (Left cause) rule word reply = record { text = word; fault = false }
shown (Refused cause) rule word reply = record { text = rule.token; fault = true }

-- how a word with this reply ended
abbrev pub IsEnding : WordRule → List ℕ → AnswerText → Ending → Type 0
IsEnding rule word reply Converted = reply.fault ≡ false
IsEnding rule word reply (Left cause) = (reply ≡ fault_answer cause.text.now)
    × (is_left rule.leaves word reply.text ≡ true)
IsEnding rule word reply (Refused cause) = (reply ≡ fault_answer cause.text.now)
    × (is_left rule.leaves word reply.text ≡ false)

-- whether a word with this ending is refused
abbrev pub is_refused : Ending → Bool
is_refused Converted = false
is_refused (Left cause) = false
is_refused (Refused cause) = true

-- the kept bytes of a word
unfoldable pub kept_word : List ℕ → List ℕ
kept_word word = take longest_line word

-- the answer to a word; an empty word has an empty answer
abbrev pub IsWordReply : WordRule → List ℕ → AnswerText → Type 0
IsWordReply s [] answer = answer ≡ record { text = []; fault = false }
IsWordReply s (b ∷ bytes) answer = (reply : AnswerText) × IsReply s.rule (b ∷ bytes) reply
    × (answer ≡ answer_of s (b ∷ bytes) reply)

-- a word, the separator after it, and the reply to it
pub record Ended : Type 0 where
  pub word : List ℕ
  pub separator : ℕ
  pub reply : AnswerText

pub record IsEnded (s : WordRule) (e : Ended) : Type 0 where
  pub unbroken : HasNoSeparator s.separators.now e.word
  pub separates : is_separator s.separators.now e.separator ≡ true
  pub replied : IsWordReply s e.word e.reply

abbrev pub AreEnded : WordRule → List Ended → Type 0
AreEnded s [] = Unit {0}
AreEnded s (e ∷ es) = IsEnded s e × AreEnded s es

-- the bytes of the words, each with the separator after it
abbrev pub bytes_of : List Ended → List ℕ
bytes_of [] = []
bytes_of (e ∷ es) = e.word ++ (e.separator ∷ bytes_of es)

-- the output for the words: each word is replaced by its reply, and each separator stays
abbrev pub written_of : List Ended → List ℕ
written_of [] = []
written_of (e ∷ es) = e.reply.text ++ (e.separator ∷ written_of es)

-- whether one of the words is refused
abbrev pub any_refused : List Ended → Bool
any_refused [] = false
any_refused (e ∷ es) = e.reply.fault || any_refused es

-- the converted text, and whether a word of the original is refused: the words up to the last separator, and a last
-- word after it
pub record IsWorded (s : WordRule) (bytes : List ℕ) (answer : AnswerText) : Type 0 where
  pub words : List Ended
  pub are : AreEnded s words
  pub rest : List ℕ
  pub unbroken : HasNoSeparator s.separators.now rest
  pub cut : bytes ≡ bytes_of words ++ rest
  pub last : AnswerText
  pub replied : IsWordReply s rest last
  pub text_is : answer.text ≡ written_of words ++ last.text
  pub fault_is : answer.fault ≡ (any_refused words || last.fault)
