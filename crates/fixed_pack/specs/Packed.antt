-- The text that a machine makes of lines, each packed by a rule, up to the first refused line.
use Rattle.std.specs.Prelude.{◌≡◌, ◌+◌, ℕ, List, [], ◌∷◌, ◌++◌, Bool, true, false, Result, Ok, Err, length, take}
use Rattle.line_engine.specs.Lines.{ended_lines, last_line, lines, unended}
use Rattle.run_engine.specs.Machines.{How, going, finished, lacking, stopped}
use Rattle.run_engine.specs.Run.{HasRun}
use Rattle.run_engine.specs.Seen.{Seen, moment}
use Rattle.run_engine.specs.declared.engine.End.{End}
use Rattle.run_engine.specs.declared.engine.End.TheVariants.{Done, Faults, ReadFault, WriteFault, NoMemory, TooLong}
use Rattle.run_engine.specs.declared.engine.End.TheVariants.{Stopped}
use Rattle.run_engine.specs.declared.pieces.Cut.{Cut}
use Rattle.run_engine.specs.declared.refusals.RefusedLine.{RefusedLine}
use Rattle.fixed_pack.specs.Pack.{AreWordsOf}
use Rattle.fixed_pack.specs.Recoded.{capped}
use Rattle.fixed_pack.specs.Word.{joined}
use Rattle.fixed_pack.specs.declared.packer.Packer.{Packer}

-- Two relations say what a rule means: `P line word`, that a line becomes these bytes, and `F line why`, that it is
-- refused for a cause.

-- ---- one line
-- the bytes that a line becomes are appended
pub record Appends (P : List ℕ → Type 0) (before after : List ℕ) : Type 0 where
  pub word : List ℕ
  pub is : P word
  pub appended : after ≡ before ++ word

-- the bytes that a line becomes are appended; or the line is refused, and nothing is appended
abbrev pub IsPackedInto : {C : Type 0} → (List ℕ → Type 0) → (C → Type 0) → List ℕ → List ℕ → Result (Unit {0}) C
    → Type 0
IsPackedInto P F before after (Ok _) = Appends P before after
IsPackedInto P F before after (Err why) = F why × (after ≡ before)

-- the number of a refused line, from 1, and the cause
pub record Refusal (C : Type 0) : Type 0 where
  pub number : ℕ
  pub cause : C

-- the line with this number is refused: `refused` has its number and the cause, and `kept` is its first bytes
pub record IsRefusal {C : Type 0} (F : List ℕ → C → Type 0) (line : List ℕ) (number : ℕ) (refused : Refusal C)
    (kept : List ℕ) : Type 0 where
  pub why : F line refused.cause
  pub number_is : refused.number ≡ number
  pub kept_is : kept ≡ take 160 line

-- ---- all of them
-- text is the words of these lines, one after another
pub record Packs (P : List ℕ → List ℕ → Type 0) (ls : List (List ℕ)) (text : List ℕ) : Type 0 where
  pub words : List (List ℕ)
  pub are : AreWordsOf P ls words
  pub text_is : text ≡ joined words

-- the ended lines were packed, and the bytes of the next line are kept
pub record GoesOn {Q : Type 0} (P : List ℕ → List ℕ → Type 0) (rule : Q) (bytes text : List ℕ) (last : Packer Q)
    : Type 0 where
  pub packs : Packs P (ended_lines bytes) text
  pub rule_is : last.rule ≡ rule
  pub line : last.line.items ≡ unended bytes
  pub count : last.lines ≡ capped (length (ended_lines bytes))

-- a line of an input stands after the lines `before`: an ended line, or the last line
abbrev pub StandsAfter : Bool → List ℕ → List (List ℕ) → List ℕ → List (List ℕ) → Type 0
StandsAfter false bytes before line after = ended_lines bytes ≡ before ++ line ∷ after
StandsAfter true bytes before line after = (before ≡ ended_lines bytes) × (last_line (unended bytes) ≡ line ∷ [])

-- the first line that is refused; the lines before it were packed
pub record StopsAt {C : Type 0} (P : List ℕ → List ℕ → Type 0) (F : List ℕ → C → Type 0) (bytes text : List ℕ)
    (late : Bool) (refused : Refusal C) (kept : List ℕ) : Type 0 where
  pub before : List (List ℕ)
  pub line : List ℕ
  pub after : List (List ℕ)
  pub stands : StandsAfter late bytes before line after
  pub packs : Packs P before text
  pub is : IsRefusal F line (capped (length before + 1)) refused kept

-- ---- the machine
abbrev pub MakesPacked : {Q C : Type 0} → (List ℕ → List ℕ → Type 0) → (List ℕ → C → Type 0) → Q → List ℕ → List ℕ → ℕ
    → How C → Packer Q → Type 0
MakesPacked P F rule bytes text spent going last = GoesOn P rule bytes text last
MakesPacked P F rule bytes text spent (finished fault) last = Packs P (lines bytes) text × (fault ≡ false)
MakesPacked P F rule bytes text spent lacking last = Packs P (ended_lines bytes) text
MakesPacked P F rule bytes text spent (stopped late cause) last =
    StopsAt P F bytes text late (record { number = last.lines; cause = cause }) last.kept

-- ---- the effects of a run
-- the end of a run, with the number and the first bytes of the refused line, which the machine keeps
abbrev pub with_line : {C : Type 0} → ℕ → List ℕ → End C → End (RefusedLine C)
with_line number kept Done = Done
with_line number kept Faults = Faults
with_line number kept ReadFault = ReadFault
with_line number kept WriteFault = WriteFault
with_line number kept TooLong = TooLong
with_line number kept NoMemory = NoMemory
with_line number kept (Stopped cause) = Stopped (record { number = number; line = kept; cause = cause })

-- a and b are what was seen of both devices before and after the run, by names for them
pub record HasPacked {Q C : Type 0} (limit : ℕ) (P : List ℕ → List ℕ → Type 0) (F : List ℕ → C → Type 0) (rule : Q)
    (a b : ℕ → ℕ → Seen) (steps steps' : ℕ) (end : End (RefusedLine C)) : Type 0 where
  pub last : Cut (Packer Q)
  pub held : List ℕ
  pub source : ℕ
  pub sink : ℕ
  pub stop : End C
  pub run : HasRun (λ bytes text spent how (it : Cut (Packer Q)). MakesPacked P F rule bytes text spent how it.0) last
      limit (moment (a source sink) [] steps) (moment (b source sink) held steps') stop
  pub end_is : end ≡ with_line last.0.lines last.0.kept stop
