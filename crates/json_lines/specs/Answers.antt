-- The answer to a line of JSON: the line with the values at a path exchanged.
use Rattle.std.specs.Prelude.{◌≡◌, ◌⊎◌, ◌&&◌, ◌||◌, ◌==◌, ◌++◌, ℕ, zero, suc, Bool, true, false, not, List, []}
use Rattle.std.specs.Prelude.{◌∷◌, IsSome, codes, if◌then◌else◌, length, nat_le}
use Rattle.std.specs.Str.{IsUtf8}
use Rattle.json.specs.Json.{document}
use Rattle.fixed_command.specs.Layout.{is_skipped}
use Rattle.line_engine.specs.AnswerText.{AnswerText}
use Rattle.json_lines.specs.Pieces.{after_piece, content, first_piece, head}
use Rattle.json_lines.specs.Places.{Frame, after, is_at}
use Rattle.json_lines.specs.Path.{PathStep}
use Rattle.json_lines.specs.declared.fault.JsonFault.{JsonFault}
use Rattle.json_lines.specs.declared.fault.JsonFault.TheVariants.{AnswerTooLong, LineTooLong, Nested, NoValue}
use Rattle.json_lines.specs.declared.fault.JsonFault.TheVariants.{NotJson}
use Rattle.json_lines.specs.declared.task.Form.{Form}

-- the longest line and the longest answer, in bytes
abbrev pub longest : ℕ
longest = 1048576

abbrev pub fault_text : JsonFault → List ℕ
fault_text LineTooLong = codes "line too long"
fault_text AnswerTooLong = codes "answer too long"
fault_text NotJson = codes "not JSON"
fault_text NoValue = codes "no value at the path"
fault_text Nested = codes "object or array"

abbrev pub refusal : JsonFault → AnswerText
refusal fault = record { text = codes "error: " ++ fault_text fault; fault = true }

-- a text that refuses nothing
abbrev pub accepted : List ℕ → AnswerText
accepted text = record { text = text; fault = false }

-- ---- the values at the path
-- what takes the place of a piece: the reply in quotes, if the piece is a string or all replies are, or as it is; an
-- empty reply leaves the piece as it was
abbrev pub exchanged : Bool → List ℕ → List ℕ → List ℕ
exchanged quotes piece [] = piece
exchanged quotes piece (b ∷ reply) = if quotes || (head piece == 34) then 34 ∷ ((b ∷ reply) ++ 34 ∷ []) else b ∷ reply

-- a text before the answer to the bytes after it; a refusal stands alone
abbrev pub onto : List ℕ → AnswerText → AnswerText
onto text more = if more.fault then more else accepted (text ++ more.text)

-- whether a piece opens an object or an array
abbrev pub opens : List ℕ → Bool
opens piece = (head piece == 123) || (head piece == 91)

-- the reply to a value: an object or an array is refused
abbrev pub IsValueReply : Bool → (List ℕ → AnswerText → Type 0) → List ℕ → AnswerText → Type 0
IsValueReply true A piece reply = reply ≡ refusal Nested
IsValueReply false A piece reply = A (content piece) reply

-- a refused value refuses the line; another is exchanged
abbrev pub AfterReply : Bool → AnswerText → List ℕ → (AnswerText → Type 0) → AnswerText → Type 0
AfterReply true reply text More answer = answer ≡ reply
AfterReply false reply text More answer = (more : AnswerText) × More more × (answer ≡ onto text more)

-- the answer to a piece, by whether a value at the path begins with it, and to the bytes after it
abbrev pub AnswersPiece : Bool → Bool → (List ℕ → AnswerText → Type 0) → List ℕ → (AnswerText → Type 0) → AnswerText
    → Type 0
AnswersPiece true quotes A piece More answer = (reply : AnswerText) × IsValueReply (opens piece) A piece reply
    × AfterReply reply.fault reply (exchanged quotes piece reply.text) More answer
AnswersPiece false quotes A piece More answer = (more : AnswerText) × More more × (answer ≡ onto piece more)

-- the end of a line, by whether a value was found
abbrev pub line_end : Bool → AnswerText
line_end true = accepted []
line_end false = refusal NoValue

-- the answer to the bytes of a line from a piece on, of at most n pieces, by the open objects and arrays there and by
-- whether a value was found before
unfoldable pub AnswersFrom : List PathStep → Bool → (List ℕ → AnswerText → Type 0) → ℕ → List Frame → Bool → List ℕ
    → AnswerText → Type 0
AnswersFrom steps quotes A n frames found [] answer = answer ≡ line_end found
AnswersFrom steps quotes A zero frames found (b ∷ bytes) answer = ⊥
AnswersFrom steps quotes A (suc n) frames found (b ∷ bytes) answer =
    AnswersPiece (is_at steps frames (first_piece (b ∷ bytes)) (after_piece (b ∷ bytes))) quotes A
    (first_piece (b ∷ bytes))
    (AnswersFrom steps quotes A n (after frames (first_piece (b ∷ bytes)) (after_piece (b ∷ bytes)))
    (found || is_at steps frames (first_piece (b ∷ bytes)) (after_piece (b ∷ bytes))) (after_piece (b ∷ bytes)))
    answer

-- ---- the answer to a line
-- a text is JSON, by the reader of the kit: it is UTF-8 and one value, nested at most 128 deep
pub record IsJson (text : List ℕ) : Type 0 where
  pub utf8 : IsUtf8 text
  pub value : IsSome (document text)

-- an answer that is longer than the longest is refused
abbrev pub fitted : AnswerText → AnswerText
fitted answer = if nat_le (length answer.text) longest then answer else refusal AnswerTooLong

-- a line that is JSON is answered by the values at the path
pub record AnswersValues (steps : List PathStep) (quotes : Bool) (A : List ℕ → AnswerText → Type 0) (line : List ℕ)
    (answer : AnswerText) : Type 0 where
  pub json : IsJson line
  pub whole : AnswerText
  pub is : AnswersFrom steps quotes A (length line) [] false line whole
  pub fits : answer ≡ fitted whole

-- another is refused
pub record RefusesLine (line : List ℕ) (answer : AnswerText) : Type 0 where
  pub other : ¬ IsJson line
  pub is : answer ≡ refusal NotJson

-- a refused line stays as it was, if refused lines are kept
abbrev pub kept : Bool → List ℕ → AnswerText → AnswerText
kept keeps line answer = if keeps && answer.fault then record { text = line; fault = true } else answer

-- the answer to a line, by whether it is too long and whether it is skipped
abbrev pub AnswersShort : Bool → Bool → List PathStep → Form → (List ℕ → AnswerText → Type 0) → List ℕ → AnswerText
    → Type 0
AnswersShort true blank steps form A line answer = answer ≡ refusal LineTooLong
AnswersShort false true steps form A line answer = answer ≡ accepted line
AnswersShort false false steps form A line answer = (read : AnswerText)
    × (RefusesLine line read ⊎ AnswersValues steps form.quotes A line read)
    × (answer ≡ kept form.keeps line read)

-- the answer to a line, by the meaning A of the reply to a value: a line that is too long is refused, a skipped one
-- stays, and another is refused or has its values exchanged
abbrev pub IsJsonAnswer : List PathStep → Form → (List ℕ → AnswerText → Type 0) → List ℕ → AnswerText → Type 0
IsJsonAnswer steps form A line answer = AnswersShort (not (nat_le (length line) longest))
    (is_skipped form.layout.now line) steps form A line answer
