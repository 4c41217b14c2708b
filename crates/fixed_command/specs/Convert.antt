-- The output for a converted numeral or register word.
use Rattle.std.specs.Prelude.{◌≡◌, ◌⊎◌, ◌==◌, ◌||◌, ◌-◌, ◌<◌, ◌≤◌, ℕ, ℤ, List, [], ◌∷◌, ◌++◌, Bool, true, false}
use Rattle.std.specs.Prelude.{if◌then◌else◌, get_or, length, take}
use Rattle.std.specs.Fmt.{signed_decimal}
use Rattle.fixed_bits.specs.Formats.{IsFormat}
use Rattle.fixed_bits.specs.Ranges.{IsWide}
use Rattle.fixed_bits.specs.declared.mode.ReadMode.{ReadMode}
use Rattle.fixed_bits.specs.declared.mode.ReadMode.TheVariants.{Floor}
use Rattle.fixed_convert.specs.Rounded.{IsNotReformatted, IsReformatted}
use Rattle.fixed_numeral.specs.Messages.{message_of}
use Rattle.fixed_numeral.specs.declared.error.ParseErrorKind.{ParseErrorKind}
use Rattle.fixed_numeral.specs.declared.error.ParseErrorKind.TheVariants.{Overflow}
use Rattle.fixed_respell.specs.Answer as respell
use Rattle.fixed_respell.specs.Answer.{IsNamedAnswer, respelled_answer}
use Rattle.fixed_respell.specs.Language.{fault_answer}
use Rattle.fixed_respell.specs.LineWords.{HasWords, longest_line, spaced}
use Rattle.fixed_respell.specs.declared.fault.LineFault.TheVariants.{LineTooLong}
use Rattle.fixed_show.specs.BitsBlock.{fault_message}
use Rattle.fixed_show.specs.ShowBlock.{IsReadAs, IsUnread}
use Rattle.fixed_show.specs.WordText.{HasWordFault, IsWord}
use Rattle.fixed_show.specs.declared.words.WordFault.{WordFault}
use Rattle.fixed_respell.specs.Words.{format_text, mode_text, policy_text, radix_text, slash}
use Rattle.fixed_write.specs.Texts.{IsShortestText}
use Rattle.line_engine.specs.AnswerText.{AnswerText}
use Rattle.fixed_command.specs.declared.convert.Settings.{Settings}
use Rattle.fixed_command.specs.Printed.{printed}
use Rattle.fixed_command.specs.declared.spelling.Spelling.{Spelling}
use Rattle.fixed_command.specs.declared.spelling.Spelling.TheVariants.{Numeral, Word}

-- the four words before the numeral, in the line that requests its conversion
abbrev pub asking_words : Settings → List (List ℕ)
asking_words s = radix_text s.radix ∷ format_text s.source ∷ format_text s.target ∷ (policy_text s.policy ++ slash
    ∷ mode_text s.mode) ∷ []

-- that line, `RADIX SOURCE TARGET POLICY/MODE NUMERAL`
abbrev pub asking_line : Settings → List ℕ → List ℕ
asking_line s numeral = spaced (asking_words s) numeral

-- both formats are valid
pub record AreFormats (s : Settings) : Type 0 where
  pub source : IsFormat s.source.width s.source.frac
  pub target : IsFormat s.target.width s.target.frac

-- ---- the source number on a line, by its spelling
-- the line gives this number of the source, and `out` says whether what was read was out of its range
abbrev pub IsSource : Spelling → Settings → List ℕ → ℤ → Bool → Type 0
IsSource Numeral s numeral number out = IsReadAs s.mode s.radix numeral s.source s.policy number out
IsSource Word s word number out = IsWord s.radix s.source word number × (out ≡ false)

-- the line gives no number of the source, and this message says why
abbrev pub IsNoSource : Spelling → Settings → List ℕ → List ℕ → Type 0
IsNoSource Numeral s numeral message = (kind : ParseErrorKind)
    × IsUnread s.mode s.radix numeral s.source s.policy kind × (message ≡ message_of kind)
IsNoSource Word s word message = (fault : WordFault) × HasWordFault s.radix s.source word fault
    × (message ≡ fault_message fault)

-- ---- the answer if the number is moved to the target in the target mode
-- the line is too long
pub record IsLong (s : Settings) (numeral : List ℕ) (answer : AnswerText) : Type 0 where
  pub long : longest_line < length (asking_line s numeral)
  pub answer_is : answer ≡ fault_answer (respell.fault_message LineTooLong)

-- the line gives no number of the source
pub record IsUnsourced (s : Settings) (numeral : List ℕ) (answer : AnswerText) : Type 0 where
  pub short : length (asking_line s numeral) ≤ longest_line
  pub message : List ℕ
  pub none : IsNoSource s.spelling s numeral message
  pub answer_is : answer ≡ fault_answer message

-- the number on the line has no image in the target
pub record IsUnmoved (s : Settings) (numeral : List ℕ) (answer : AnswerText) : Type 0 where
  pub short : length (asking_line s numeral) ≤ longest_line
  pub formats : AreFormats s
  pub number : ℤ
  pub out : Bool
  pub source : IsSource s.spelling s numeral number out
  pub none : IsNotReformatted s.target_mode s.policy s.target number s.source.frac
  pub answer_is : answer ≡ fault_answer (message_of Overflow)

-- the number has an image: the answer is the shortest decimal of its bits, the bits, and whether one of the two numbers
-- was out of its format
pub record IsMovedTo (s : Settings) (numeral : List ℕ) (answer : AnswerText) : Type 0 where
  pub short : length (asking_line s numeral) ≤ longest_line
  pub formats : AreFormats s
  pub number : ℤ
  pub out : Bool
  pub source : IsSource s.spelling s numeral number out
  pub bits : ℤ
  pub target_out : Bool
  pub moved : IsReformatted s.target_mode s.policy s.target number s.source.frac bits target_out
  pub text : List ℕ
  pub shortest : IsShortestText bits s.target.frac text
  pub answer_is : answer ≡ respelled_answer text bits (out || target_out)

abbrev pub IsMovedAnswer : Settings → List ℕ → AnswerText → Type 0
IsMovedAnswer s numeral answer = IsLong s numeral answer
    ⊎ (IsUnsourced s numeral answer ⊎ (IsUnmoved s numeral answer ⊎ IsMovedTo s numeral answer))

-- ---- the answer
-- whether the answer is that to a line with formats of any width: for a numeral, if the target mode is `Floor`, as in
-- every such line
abbrev pub asks_a_line : Spelling → ReadMode → Bool
asks_a_line Numeral Floor = true
asks_a_line spelling mode = false

abbrev pub IsAnswerBy : Bool → Settings → List ℕ → AnswerText → Type 0
IsAnswerBy true s numeral answer = IsNamedAnswer (asking_line s numeral) answer
IsAnswerBy false s numeral answer = IsMovedAnswer s numeral answer

abbrev pub IsAsked : Settings → List ℕ → AnswerText → Type 0
IsAsked s numeral answer = IsAnswerBy (asks_a_line s.spelling s.target_mode) s numeral answer

-- ---- the reply
-- a line without one carriage return at its end
abbrev pub without_return : List ℕ → List ℕ
without_return line = if get_or line (length line - 1) 0 == 13 then take (length line - 1) line else line

-- the answer is not a fault, and the reply is the requested part of it
pub record IsPart (s : Settings) (answer reply : AnswerText) : Type 0 where
  pub clean : answer.fault ≡ false
  pub text : List ℕ
  pub bits : ℤ
  pub last : List ℕ
  pub words : HasWords answer.text (text ∷ signed_decimal bits ∷ []) last
  pub wide : IsWide bits
  pub reply_is : reply ≡ record { text = printed s.print s.target answer.text text bits; fault = false }

-- a fault is written whole
pub record IsWholeFault (answer reply : AnswerText) : Type 0 where
  pub faulty : answer.fault ≡ true
  pub reply_is : reply ≡ answer

-- the reply to a numeral or a word: the whole answer if it is a fault, else the requested part
pub record IsReply (s : Settings) (numeral : List ℕ) (reply : AnswerText) : Type 0 where
  pub answer : AnswerText
  pub asked : IsAsked s numeral answer
  pub written : IsWholeFault answer reply ⊎ IsPart s answer reply

-- the reply to a line, whose numeral is the line without one carriage return at its end
abbrev pub IsLineReply : Settings → List ℕ → AnswerText → Type 0
IsLineReply s line reply = IsReply s (without_return line) reply
