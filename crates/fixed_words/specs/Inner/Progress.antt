-- The effect of a byte, and of the end of a word.
use Rattle.std.specs.Prelude.{◌≡◌, ◌≤◌, ◌||◌, ◌++◌, ◌∷◌, ◌⊎◌, ◌==◌, ℕ, Bool, List, [], Option, true, false}
use Rattle.std.specs.Prelude.{if◌then◌else◌, length}
use Rattle.line_engine.specs.AnswerText.{AnswerText}
use Rattle.line_rejects.specs.Rejects.{Sight}
use Rattle.fixed_words.specs.Told.{Spot, TellsWord, Told, after_byte, spot_of, told_by}
use Rattle.fixed_words.specs.Run.{GoesOn}
use Rattle.fixed_words.specs.Words.{IsWordReply, is_separator, kept_word, longest_left}
use Rattle.fixed_words.specs.declared.rule.Ending.{Ending}
use Rattle.fixed_words.specs.declared.rule.Ending.TheVariants.{Converted, Left, Refused}
use Rattle.fixed_words.specs.declared.rule.WordRule.{WordRule}
use Rattle.fixed_words.specs.declared.splitter.Words.{Words}

-- a word that stays is not too long
abbrev pub LeftFits : Ending → List ℕ → Type 0
LeftFits Converted word = Unit {0}
LeftFits (Left cause) word = length word ≤ longest_left
LeftFits (Refused cause) word = Unit {0}

-- the position of the word that has not ended
abbrev pub start_of : Words → Spot
start_of u = record { line = u.line; byte = u.start }

-- the next byte stands where it stood
pub record IsAtSamePlace (u v : Words) : Type 0 where
  pub line : v.line ≡ u.line
  pub byte : v.byte ≡ u.byte
  pub start : v.start ≡ u.start

-- nothing more was told
abbrev pub IsToldAlike : Words → Words → Type 0
IsToldAlike u v = (name : Option (List ℕ)) (rejects : Sight) → told_by v name rejects ≡ told_by u name rejects

-- the word was answered, and `Sent` holds of its reply followed by the bytes `ending`
pub record EndsWord (s : WordRule) (word ending : List ℕ) (old new : Words) (Sent : List ℕ → Type 0) : Type 0 where
  pub reply : AnswerText
  pub replied : IsWordReply s word reply
  pub fault : new.has_fault ≡ (old.has_fault || reply.fault)
  pub sent : Sent (reply.text ++ ending)

-- a byte ended the word
pub record EndsBy (s : WordRule) (byte : ℕ) (old new : Words) (Sent : List ℕ → Type 0) : Type 0 where
  pub ends : is_separator s.separators.now byte ≡ true
  pub word : EndsWord s old.word (byte ∷ []) old new Sent
  pub none : new.word ≡ []

-- a byte was added to the word
pub record AddsByte (s : WordRule) (byte : ℕ) (old new : Words) (Sent : List ℕ → Type 0) : Type 0 where
  pub inner : is_separator s.separators.now byte ≡ false
  pub kept : (word : List ℕ) → old.word ≡ kept_word word → new.word ≡ kept_word (word ++ byte ∷ [])
  pub fault : new.has_fault ≡ old.has_fault
  pub sent : Sent []

-- the next byte ended the word or was added to it
abbrev pub Takes : WordRule → ℕ → Words → Words → (List ℕ → Type 0) → Type 0
Takes s byte old new Sent = EndsBy s byte old new Sent ⊎ AddsByte s byte old new Sent

-- the word was told, if it ended
abbrev pub TellsIfEnded : Bool → WordRule → Words → Told → Told → Type 0
TellsIfEnded true s old first last = TellsWord s (start_of old) old.word first last
TellsIfEnded false s old first last = last ≡ first

-- the position after a byte
pub record Passes (byte : ℕ) (old new : Words) : Type 0 where
  pub word : new.word ≡ old.word
  pub fault : new.has_fault ≡ old.has_fault
  pub spot : spot_of new ≡ after_byte (spot_of old) byte
  pub start : new.start ≡ (if length old.word == 0 then new.byte else old.start)

-- the next byte was taken, and `Sent` holds of the text made of it
pub record TakesByte (s : WordRule) (byte : ℕ) (old new : Words) (u v : Told) (Sent : List ℕ → Type 0) : Type 0 where
  pub more : List ℕ
  pub goes : (first : Told) (bytes made : List ℕ) → GoesOn s first bytes made old u
      → GoesOn s first (bytes ++ byte ∷ []) (made ++ more) new v
  pub sent : Sent more
