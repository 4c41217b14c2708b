-- What is told of the words of a text: how many were refused, the first of these, their outcomes and the greatest
-- error, and the rejects.
use Rattle.std.specs.Prelude.{◌≡◌, ◌==◌, ◌++◌, ◌∷◌, ℕ, Bool, true, false, List, [], Option, None, Some}
use Rattle.std.specs.Prelude.{if◌then◌else◌, take}
use Rattle.line_engine.specs.Memory.{next_count}
use Rattle.line_rejects.specs.Rejects.{HasReject, Sight, sight_of}
use Rattle.line_rejects.specs.declared.rejects.Rejects.{Rejects}
use Rattle.run_engine.specs.Reply.{error_text}
use Rattle.line_engine.specs.AnswerText.{AnswerText}
use Rattle.fixed_report.specs.Report.{HasReport, HasSums, Kept}
use Rattle.fixed_command.specs.Convert.{IsReply}
use Rattle.fixed_command.specs.Observed.{ErrorAddedIf}
use Rattle.fixed_command.specs.Outcome.{IsOutcome, has_error, noted}
use Rattle.fixed_command.specs.Rejects.{name_of}
use Rattle.fixed_command.specs.Reports.{no_tally}
use Rattle.fixed_command.specs.Watched.{kept_bytes}
use Rattle.fixed_command.specs.declared.convert.Settings.{Settings}
use Rattle.fixed_command.specs.declared.outcome.Outcome.{Outcome}
use Rattle.fixed_command.specs.declared.outcome.Outcome.TheVariants as outcome
use Rattle.fixed_command.specs.declared.outcome.Tally.{Tally}
use Rattle.fixed_words.specs.Words.{Ended, IsEnding, is_overflow, kept_word}
use Rattle.fixed_words.specs.declared.rule.Ending.{Ending}
use Rattle.fixed_words.specs.declared.rule.Ending.TheVariants.{Converted, Left, Refused}
use Rattle.fixed_words.specs.declared.rule.WordRule.{WordRule}
use Rattle.fixed_words.specs.declared.splitter.WordRefusal.{WordRefusal}
use Rattle.fixed_words.specs.declared.splitter.Words.{Words}

-- a position in a text: its line and its place in the line, each from 1
pub record Spot : Type 0 where
  pub line : ℕ
  pub byte : ℕ

-- the position of the first byte
abbrev pub origin : Spot
origin = record { line = 1; byte = 1 }

-- the position after one more byte; each number stays at the greatest that it can have
abbrev pub after_byte : Spot → ℕ → Spot
after_byte at byte = record {
  line = if byte == 10 then next_count at.line else at.line;
  byte = if byte == 10 then 1 else next_count at.byte;
}

-- the position after some bytes
unfoldable pub spot_after : Spot → List ℕ → Spot
spot_after at [] = at
spot_after at (byte ∷ bytes) = spot_after (after_byte at byte) bytes

-- the position of the next byte
abbrev pub spot_of : Words → Spot
spot_of u = record { line = u.line; byte = u.byte }

-- how many words were refused; the first of these; the outcomes and, if outcomes are kept, the greatest error; and the
-- rejects, with the name of their input
pub record Told : Type 0 where
  pub refused : ℕ
  pub first : Option WordRefusal
  pub tally : Tally
  pub errors : Option Kept
  pub name : Option (List ℕ)
  pub rejects : Sight

abbrev pub told_by : Words → Option (List ℕ) → Sight → Told
told_by u name rejects = record {
  refused = u.refused;
  first = u.first;
  tally = u.tally;
  errors = u.errors;
  name = name;
  rejects = rejects;
}

abbrev pub told_of : {J : Type 0} → (J → Option (List ℕ)) → (J → ℕ) → Words → Rejects J → Told
told_of written failures u rejects = told_by u (name_of rejects) (sight_of written failures rejects)

-- before the first word
abbrev pub nothing_told : Option Kept → Option (List ℕ) → Sight → Told
nothing_told errors name rejects = record {
  refused = 0;
  first = None;
  tally = no_tally;
  errors = errors;
  name = name;
  rejects = rejects;
}

-- the report of the greatest error before the first word, if one is requested
abbrev pub IsNoError : Bool → Settings → Option Kept → Type 0
IsNoError false s errors = errors ≡ None
IsNoError true s errors = (k : Kept) × (errors ≡ Some k) × (k.radix ≡ s.radix) × (k.format ≡ s.source)
    × (k.mode ≡ s.mode) × HasReport s.mode s.radix s.source [] k.lost k.greatest
    × HasSums s.mode s.radix s.source [] k.lost k.sums

-- ---- one more word
-- the outcome of a word with this ending; one that stays and is not a numeral has none
abbrev pub NotesEnding : Settings → Ending → List ℕ → Option Outcome → Type 0
NotesEnding s Converted word note = (it : Outcome) × IsOutcome it s word × (note ≡ Some it)
NotesEnding s (Left cause) word note =
    note ≡ (if is_overflow (error_text cause.text.now) then Some outcome.Overflowed else None)
NotesEnding s (Refused cause) word note = note ≡ Some outcome.Refused

-- the outcomes and the report of the greatest error after a word with this outcome, in the line of this number, if they
-- are kept
abbrev pub NotesOutcome : Settings → ℕ → List ℕ → Option Outcome → Tally → Kept → Tally → Kept → Type 0
NotesOutcome s line word None tally k later more = (later ≡ tally) × (more ≡ k)
NotesOutcome s line word (Some it) tally k later more = (later ≡ noted tally line it)
    × ErrorAddedIf (has_error s.spelling it) k line word more

abbrev pub NotesWord : Settings → Ending → ℕ → List ℕ → Tally → Option Kept → Tally → Option Kept → Type 0
NotesWord s ending line word tally None later errors = (later ≡ tally) × (errors ≡ None)
NotesWord s ending line word tally (Some k) later errors = (note : Option Outcome) × NotesEnding s ending word note
    × (more : Kept) × (errors ≡ Some more) × NotesOutcome s line word note tally k later more

-- what is kept of a refused word that begins at this position: its first bytes, and those of the cause
abbrev pub refusal_of : Spot → List ℕ → List ℕ → WordRefusal
refusal_of at word cause = record {
  line = record { number = at.line; text = take kept_bytes word; cause = take kept_bytes cause };
  byte = at.byte;
}

abbrev pub first_after : Option WordRefusal → WordRefusal → Option WordRefusal
first_after None refusal = Some refusal
first_after (Some first) refusal = Some first

-- the count of refused words and the first of them, after a word with this ending
abbrev pub Counts : Ending → Spot → List ℕ → ℕ → Option WordRefusal → ℕ → Option WordRefusal → Type 0
Counts Converted at word count first later next = (later ≡ count) × (next ≡ first)
Counts (Left cause) at word count first later next = (later ≡ count) × (next ≡ first)
Counts (Refused cause) at word count first later next = (later ≡ next_count count)
    × (next ≡ first_after first (refusal_of at word cause.text.now))

-- the rejects after it: a refused word has a line in them, with the number of its line, its position there, and the
-- cause
abbrev pub PutsReject : Ending → Option (List ℕ) → Spot → List ℕ → Sight → Sight → Type 0
PutsReject Converted name at word before after = after ≡ before
PutsReject (Left cause) name at word before after = after ≡ before
PutsReject (Refused cause) name at word before after =
    HasReject name at.line (Some at.byte) word cause.text.now before after

-- a word with this ending was told, which begins at this position
pub record TellsEnding (s : WordRule) (ending : Ending) (at : Spot) (word : List ℕ) (u v : Told) : Type 0 where
  pub counts : Counts ending at word u.refused u.first v.refused v.first
  pub notes : NotesWord s.rule ending at.line word u.tally u.errors v.tally v.errors
  pub puts : PutsReject ending u.name at word u.rejects v.rejects
  pub name : v.name ≡ u.name

-- a word was told, by its kept bytes; an empty one is not
abbrev pub TellsWord : WordRule → Spot → List ℕ → Told → Told → Type 0
TellsWord s at [] u v = v ≡ u
TellsWord s at (b ∷ bytes) u v = (reply : AnswerText) × IsReply s.rule (b ∷ bytes) reply × (ending : Ending)
    × IsEnding s (b ∷ bytes) reply ending × TellsEnding s ending at (b ∷ bytes) u v

-- these words were told in order, of which the first begins at this position
unfoldable pub TellsWords : WordRule → Spot → List Ended → Told → Told → Type 0
TellsWords s at [] u v = v ≡ u
TellsWords s at (e ∷ es) u v = (w : Told) × TellsWord s at (kept_word e.word) u w
    × TellsWords s (spot_after at (e.word ++ e.separator ∷ [])) es w v
