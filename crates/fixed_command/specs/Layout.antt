-- What a line may have besides its numeral.
use Rattle.std.specs.Prelude.{◌≡◌, ◌==◌, ◌&&◌, ◌||◌, ◌-◌, ℕ, List, [], Bool, true, false, not, drop, if◌then◌else◌}
use Rattle.std.specs.Prelude.{MatchOption, Option, length, nat_lt, take}
use Rattle.std.specs.Char.{is_ascii_whitespace}
use Rattle.std.specs.List.{prefix_len, starts_with, suffix_len}
use Rattle.fixed_respell.specs.Answer.{fault_message}
use Rattle.fixed_respell.specs.Language.{fault_answer}
use Rattle.fixed_respell.specs.LineWords.{longest_line}
use Rattle.fixed_respell.specs.declared.fault.LineFault.TheVariants.{LineTooLong}
use Rattle.line_engine.specs.AnswerText.{AnswerText}
use Rattle.fixed_command.specs.Convert.{without_return}

-- the bytes after the leading blanks: ASCII white space
abbrev pub after_blanks : List ℕ → List ℕ
after_blanks bytes = drop (prefix_len is_ascii_whitespace bytes) bytes

-- the bytes without leading and trailing blanks
abbrev pub trimmed : List ℕ → List ℕ
trimmed bytes = take (length (after_blanks bytes) - suffix_len is_ascii_whitespace (after_blanks bytes))
    (after_blanks bytes)

-- whether the bytes begin with this prefix, which must not be empty
abbrev pub has_prefix : List ℕ → List ℕ → Bool
has_prefix prefix bytes = not (length prefix == 0) && starts_with (λ a b. a == b) bytes prefix

-- what a line may have: blanks around its numeral; only blanks; or, after blanks, a comment with this prefix
pub record LineLayout : Type 0 where
  pub is_trimmed : Bool
  pub skips_blank : Bool
  pub comments : List ℕ

-- the numeral of a line
abbrev pub numeral_of : LineLayout → List ℕ → List ℕ
numeral_of l line = if l.is_trimmed then trimmed (without_return line) else without_return line

-- the line without blanks around it, if it may have them
abbrev pub without_blanks : LineLayout → List ℕ → List ℕ
without_blanks l line = if l.is_trimmed then trimmed line else line

-- how many blanks precede the numeral
abbrev pub blanks_before : LineLayout → List ℕ → ℕ
blanks_before l line = if l.is_trimmed then length line - length (after_blanks line) else 0

-- whether the line is blank or a comment
abbrev pub is_skipped : LineLayout → List ℕ → Bool
is_skipped l line = (l.skips_blank && (length (trimmed line) == 0)) || has_prefix l.comments (after_blanks line)

-- the reply to a line, by whether it is too long and whether it is skipped
abbrev pub IsReplyTo : Bool → Bool → LineLayout → (List ℕ → AnswerText → Type 0) → List ℕ → AnswerText → Type 0
IsReplyTo true skipped l A line reply = reply ≡ fault_answer (fault_message LineTooLong)
IsReplyTo false true l A line reply = reply ≡ record { text = []; fault = false }
IsReplyTo false false l A line reply = A (numeral_of l line) reply

-- the reply to a line: a fault if it is too long, empty if it is skipped, else that to its numeral by the meaning `A`
abbrev pub IsLaidOut : LineLayout → (List ℕ → AnswerText → Type 0) → List ℕ → AnswerText → Type 0
IsLaidOut l A line reply = IsReplyTo (nat_lt longest_line (length line)) (is_skipped l line) l A line reply

-- the answer to a line, by whether it is too long and whether it is skipped
abbrev pub IsAnswerLaidBy : Bool → Bool → LineLayout → (List ℕ → AnswerText → Type 0) → List ℕ → AnswerText → Type 0
IsAnswerLaidBy true skipped l A line answer = A line answer
IsAnswerLaidBy false true l A line answer = answer ≡ record { text = []; fault = false }
IsAnswerLaidBy false false l A line answer = A (without_blanks l line) answer

-- the answer to a line, by the meaning `A` of answers: that to the line if it is too long, empty if it is skipped, else
-- that to the line without blanks
abbrev pub AnswersLaidOut : LineLayout → (List ℕ → AnswerText → Type 0) → List ℕ → AnswerText → Type 0
AnswersLaidOut l A line answer = IsAnswerLaidBy (nat_lt longest_line (length line)) (is_skipped l line) l A line answer

-- the line that is answered for a line: the same if it is too long, else without blanks
abbrev pub answered_line : LineLayout → List ℕ → List ℕ
answered_line l line = if nat_lt longest_line (length line) then line else without_blanks l line

-- what is noted of an answered line: nothing of a skipped one, else what the meaning `Notes` says of the line that is
-- answered for it
abbrev pub NotesLaidOut : {N : Type 0} → LineLayout → (List ℕ → N → Type 0) → List ℕ → Option N → Type 0
NotesLaidOut l Notes line note = MatchOption note (is_skipped l line ≡ true) (Notes (answered_line l line))
