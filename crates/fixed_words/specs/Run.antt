-- The text made of words, and what a run over the words of an input leaves.
use Rattle.std.specs.Prelude.{◌≡◌, ◌++◌, ◌∷◌, ℕ, Bool, true, List, [], Option}
use Rattle.std.specs.declared.convert.Infallible.{Infallible}
use Rattle.line_engine.specs.AnswerText.{AnswerText}
use Rattle.line_engine.specs.Program.{Outside}
use Rattle.line_engine.specs.declared.status.Status.{Status}
use Rattle.run_engine.specs.LineStatus.{IsStatus}
use Rattle.run_engine.specs.Machines.{How, going, finished, lacking, stopped}
use Rattle.run_engine.specs.Run.{HasRun}
use Rattle.run_engine.specs.Seen.{Moment}
use Rattle.run_engine.specs.declared.engine.End.{End}
use Rattle.fixed_command.specs.Runs.{outside_at}
use Rattle.fixed_words.specs.Told.{Told, TellsWords, origin, spot_after, spot_of, told_of}
use Rattle.fixed_words.specs.Words.{AreEnded, Ended, HasNoSeparator, IsWorded, any_refused, bytes_of, kept_word}
use Rattle.fixed_words.specs.Words.{written_of}
use Rattle.fixed_words.specs.declared.rule.WordRule.{WordRule}
use Rattle.fixed_words.specs.declared.splitter.WordBytes.{WordBytes}
use Rattle.fixed_words.specs.declared.splitter.Words.{Words}

-- each byte is a piece
abbrev pub is_piece : ℕ → Bool
is_piece byte = true

-- the words that ended in these bytes were answered with this text and told, from `first` to `last`, and the next one
-- is kept
pub record GoesOn (s : WordRule) (first : Told) (bytes text : List ℕ) (u : Words) (last : Told) : Type 0 where
  pub words : List Ended
  pub are : AreEnded s words
  pub rest : List ℕ
  pub unbroken : HasNoSeparator s.separators.now rest
  pub kept : u.word ≡ kept_word rest
  pub cut : bytes ≡ bytes_of words ++ rest
  pub text_is : text ≡ written_of words
  pub faulty : u.has_fault ≡ any_refused words
  pub tells : TellsWords s origin words first last
  pub spot : spot_of u ≡ spot_after origin bytes
  pub start : u.start ≡ (spot_after origin (bytes_of words)).byte

-- the last word of a text, with the reply to it; what would separate it from a next one does not matter
abbrev pub last_word : List ℕ → AnswerText → Ended
last_word rest reply = record { word = rest; separator = 0; reply = reply }

-- all words were answered with this text and told
pub record Ends (s : WordRule) (first : Told) (bytes text : List ℕ) (fault : Bool) (last : Told) : Type 0 where
  pub worded : IsWorded s bytes (record { text = text; fault = fault })
  pub tells : TellsWords s origin (worded.words ++ last_word worded.rest worded.last ∷ []) first last

-- what a machine makes of words, by how it stands with their text
abbrev pub MakesWords : WordRule → Told → List ℕ → List ℕ → How Infallible → Words → Told → Type 0
MakesWords s first bytes text going u last = GoesOn s first bytes text u last
MakesWords s first bytes text (finished fault) u last = Ends s first bytes text fault last
MakesWords s first bytes text lacking u last = ⊥
MakesWords s first bytes text (stopped late why) u last = ⊥

abbrev pub MakesBy : {J : Type 0} → (J → Option (List ℕ)) → (J → ℕ) → WordBytes J → List ℕ → List ℕ → ℕ
    → How Infallible → WordBytes J → Type 0
MakesBy written failures first bytes text spent how last = (last.rule ≡ first.rule)
    × MakesWords first.rule.now (told_of written failures first.words first.rejects) bytes text how last.words
    (told_of written failures last.words last.rejects)

-- what a run within a limit has taken, made and written, with this status, and what it told of its words, from `first`
-- to `last`
pub record HasWordsRun (limit : ℕ) (s : WordRule) (before after : Outside) (status : Status) (first last : Told)
    : Type 0 where
  pub words : Words
  pub a : Moment
  pub b : Moment
  pub end : End Infallible
  pub is_before : outside_at a ≡ before
  pub is_after : outside_at b ≡ after
  pub ends : IsStatus end status
  pub run : HasRun {M = Words × Told} (λ bytes text spent how it. MakesWords s first bytes text how it.0 it.1)
      (words, last) limit a b end
