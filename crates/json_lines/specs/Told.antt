-- What is told of lines: an observer of each value at the path up to the first refused one of its line and of each
-- line that is refused as a whole; and how many lines are refused, and the first of them.
use Rattle.std.specs.Prelude.{◌≡◌, ◌≤◌, ◌⊎◌, ◌==◌, ◌||◌, ◌+◌, ◌-◌, ℕ, zero, suc, Bool, true, false, not}
use Rattle.std.specs.Prelude.{List, [], ◌∷◌, None, Option, Some, drop, if◌then◌else◌, length, map, nat_le, take}
use Rattle.std.specs.Str.{IsUtf8}
use Rattle.std.specs.Str.Lossy.{utf8_valid_len}
use Rattle.column_engine.specs.Answers.{counted}
use Rattle.column_engine.specs.declared.watch.FieldPlace.{FieldPlace}
use Rattle.fixed_command.specs.FieldRejects.{cause_in}
use Rattle.fixed_command.specs.Layout.{is_skipped}
use Rattle.line_engine.specs.AnswerText.{AnswerText}
use Rattle.line_engine.specs.Lines.{kept_length}
use Rattle.line_engine.specs.Memory.{next_count}
use Rattle.json_lines.specs.Answers.{AnswersFrom, IsJson, IsValueReply, fault_text, longest, opens}
use Rattle.json_lines.specs.Path.{PathStep, step_of}
use Rattle.json_lines.specs.Pieces.{after_piece, content, first_piece, head, piece_length}
use Rattle.json_lines.specs.Places.{Frame, after, is_at}
use Rattle.json_lines.specs.declared.answer.Refused.{Refused}
use Rattle.json_lines.specs.declared.answer.Refused.TheVariants.{Line, No, Value}
use Rattle.json_lines.specs.declared.fault.JsonFault.TheVariants.{AnswerTooLong, LineTooLong, Nested, NoValue}
use Rattle.json_lines.specs.declared.fault.JsonFault.TheVariants.{NotJson}
use Rattle.json_lines.specs.declared.refusals.JsonRefusal.{JsonRefusal}
use Rattle.json_lines.specs.declared.splitter.JsonLines.{JsonLines}
use Rattle.json_lines.specs.declared.task.JsonTask.{JsonTask}

-- how an observer changes when it is told of a text at a place, with its reply
abbrev pub Sight : Type 0 → Type 1
Sight W = W → FieldPlace → List ℕ → AnswerText → W → Type 0

-- the place of the text of a value that begins at this index of a line: after a quote, if it is a string
abbrev pub value_place : ℕ → ℕ → List ℕ → FieldPlace
value_place number at piece = record {
  «record» = number;
  line = number;
  column = counted at (if head piece == 34 then 1 else 0);
}

-- an observer was told of a value, with its reply
abbrev pub SeesReply : {W : Type 0} → (List ℕ → AnswerText → Type 0) → Sight W → FieldPlace → List ℕ → Bool → W → W
    → Type 0
SeesReply A Saw place piece refused watch next = (reply : AnswerText) × IsValueReply (opens piece) A piece reply
    × Saw watch place (content piece) reply next × (reply.fault ≡ refused)

-- ---- the values of a line
-- a refused value is the last; after another one the observer is told of more
abbrev pub SeesAfter : {W : Type 0} → Bool → Refused → (W → Refused → W → Type 0) → W → Refused → W → Type 0
SeesAfter true value More watch refused last = (last ≡ watch) × (refused ≡ value)
SeesAfter false value More watch refused last = More watch refused last

-- of a piece, by whether a value at the path begins with it, and of the bytes after it
abbrev pub SeesPiece : {W : Type 0} → Bool → (List ℕ → AnswerText → Type 0) → Sight W → FieldPlace → List ℕ → Refused
    → (W → Refused → W → Type 0) → W → Refused → W → Type 0
SeesPiece {W = W} true A Saw place piece value More watch refused last = (reply : AnswerText)
    × IsValueReply (opens piece) A piece reply × (next : W) × Saw watch place (content piece) reply next
    × SeesAfter reply.fault value More next refused last
SeesPiece false A Saw place piece value More watch refused last = More watch refused last

-- whether a line is refused at its end, by whether a value was found
abbrev pub end_refused : Bool → Refused
end_refused true = No
end_refused false = Line NoValue

-- of the values of a line with this number, from the piece at an index on, of at most n pieces, by the open objects and
-- arrays there and by whether a value was found before; `refused` says whether the line is refused
unfoldable pub SeesFrom : {W : Type 0} → List PathStep → (List ℕ → AnswerText → Type 0) → Sight W → ℕ → ℕ → List Frame
    → Bool → ℕ → List ℕ → W → Refused → W → Type 0
SeesFrom steps A Saw number n frames found at [] watch refused last = (last ≡ watch) × (refused ≡ end_refused found)
SeesFrom steps A Saw number zero frames found at (b ∷ bytes) watch refused last = ⊥
SeesFrom steps A Saw number (suc n) frames found at (b ∷ bytes) watch refused last =
    SeesPiece (is_at steps frames (first_piece (b ∷ bytes)) (after_piece (b ∷ bytes))) A Saw
    (value_place number at (first_piece (b ∷ bytes))) (first_piece (b ∷ bytes))
    (Value at (at + piece_length (b ∷ bytes)))
    (SeesFrom steps A Saw number n (after frames (first_piece (b ∷ bytes)) (after_piece (b ∷ bytes)))
    (found || is_at steps frames (first_piece (b ∷ bytes)) (after_piece (b ∷ bytes))) (at + piece_length (b ∷ bytes))
    (after_piece (b ∷ bytes))) watch refused last

-- a line whose answer is too long is refused as a whole
abbrev pub fitted_refusal : AnswerText → Refused → Refused
fitted_refusal whole refused = if nat_le (length whole.text) longest then refused else Line AnswerTooLong

-- of the values of a line that is JSON
pub record SeesValues {W : Type 0} (steps : List PathStep) (quotes : Bool) (A : List ℕ → AnswerText → Type 0)
    (Saw : Sight W) (number : ℕ) (line : List ℕ) (watch : W) (refused : Refused) (last : W) : Type 0 where
  pub json : IsJson line
  pub read : Refused
  pub sees : SeesFrom steps A Saw number (length line) [] false 0 line watch read last
  pub whole : AnswerText
  pub is : AnswersFrom steps quotes A (length line) [] false line whole
  pub fits : refused ≡ fitted_refusal whole read

-- another has no values
pub record SeesNone {W : Type 0} (line : List ℕ) (watch : W) (refused : Refused) (last : W) : Type 0 where
  pub other : ¬ IsJson line
  pub same : last ≡ watch
  pub is : refused ≡ Line NotJson

-- ---- a line
-- the values of a line, by whether it is too long and whether it is skipped
abbrev pub SeesShort : {R W : Type 0} → Bool → Bool → JsonTask R → (List ℕ → AnswerText → Type 0) → Sight W → ℕ
    → List ℕ → W → Refused → W → Type 0
SeesShort true blank task A Saw number line watch refused last = (last ≡ watch) × (refused ≡ Line LineTooLong)
SeesShort false true task A Saw number line watch refused last = (last ≡ watch) × (refused ≡ No)
SeesShort false false task A Saw number line watch refused last = SeesNone line watch refused last
    ⊎ SeesValues (map step_of task.steps.now) task.form.quotes A Saw number line watch refused last

abbrev pub SeesLineValues : {R W : Type 0} → JsonTask R → (List ℕ → AnswerText → Type 0) → Sight W → ℕ → List ℕ → W
    → Refused → W → Type 0
SeesLineValues task A Saw number line watch refused last = SeesShort (not (nat_le (length line) longest))
    (is_skipped task.form.layout.now line) task A Saw number line watch refused last

-- `stop` is where a line that is refused as no JSON stops being so, from 1, or 0 without memory for that, and 0 for
-- another line; one that is not UTF-8 stops after its longest beginning that is
abbrev pub IsStop : Refused → List ℕ → ℕ → Type 0
IsStop No line stop = stop ≡ 0
IsStop (Value at end) line stop = stop ≡ 0
IsStop (Line NotJson) line stop = ¬ IsUtf8 line → stop ≡ utf8_valid_len line + 1
IsStop (Line LineTooLong) line stop = stop ≡ 0
IsStop (Line AnswerTooLong) line stop = stop ≡ 0
IsStop (Line NoValue) line stop = stop ≡ 0
IsStop (Line Nested) line stop = stop ≡ 0

-- the line itself, if it is refused as a whole: its first bytes and the bare cause, where it stops being JSON
abbrev pub SeesRefused : {W : Type 0} → Refused → ℕ → Sight W → ℕ → List ℕ → W → W → Type 0
SeesRefused No stop Saw number line watch last = last ≡ watch
SeesRefused (Value at end) stop Saw number line watch last = last ≡ watch
SeesRefused (Line fault) stop Saw number line watch last =
    Saw watch (record { «record» = number; line = number; column = stop - 1 }) (take longest line)
    (record { text = fault_text fault; fault = true }) last

-- ---- the report of refused lines
-- how many bytes of a refused text and of its cause are kept
abbrev pub most_kept : ℕ
most_kept = 160

-- the piece of a line from one index to another
abbrev pub piece_between : List ℕ → ℕ → ℕ → List ℕ
piece_between line at end = take (end - at) (drop at line)

-- a refused value lies in its line
abbrev pub IsWithin : Refused → List ℕ → Type 0
IsWithin No line = Unit {0}
IsWithin (Line fault) line = Unit {0}
IsWithin (Value at end) line = (at ≤ end) × (end ≤ length line)

-- this is the text of the reply to a refused value
abbrev pub HasReply : Refused → (List ℕ → AnswerText → Type 0) → List ℕ → List ℕ → Type 0
HasReply No A line reply = Unit {0}
HasReply (Line fault) A line reply = Unit {0}
HasReply (Value at end) A line reply = IsValueReply (opens (piece_between line at end)) A (piece_between line at end)
    (record { text = reply; fault = true })

-- the report of a refused text
abbrev pub refusal_of : ℕ → ℕ → ℕ → List ℕ → List ℕ → JsonRefusal
refusal_of number byte stop text cause = record {
  number = number;
  byte = byte;
  stop = stop;
  text = take most_kept text;
  is_whole = nat_le (length text) most_kept;
  cause = take most_kept cause;
}

-- the report of a refused line: of the whole line, or of its refused value, whose text stands after a quote, if it is a
-- string
abbrev pub report_of : ℕ → Refused → ℕ → List ℕ → List ℕ → Option JsonRefusal
report_of number No stop line reply = None
report_of number (Line fault) stop line reply = Some (refusal_of number 0 stop line (fault_text fault))
report_of number (Value at end) stop line reply = Some (refusal_of number
    (at + (if head (piece_between line at end) == 34 then 2 else 1)) 0 (content (piece_between line at end))
    (cause_in reply))

-- the first report stays
abbrev pub first_after : Option JsonRefusal → Option JsonRefusal → Option JsonRefusal
first_after None report = report
first_after (Some first) report = Some first

-- how many lines are refused, after one more
abbrev pub refused_after : Refused → ℕ → ℕ
refused_after No count = count
refused_after (Line fault) count = next_count count
refused_after (Value at end) count = next_count count

-- ---- lines
-- the observer, how many lines were refused, and the first of these
pub record Told (W : Type 0) : Type 0 where
  pub observer : W
  pub refused : ℕ
  pub first : Option JsonRefusal

-- before the first line
abbrev pub nothing_told : {W : Type 0} → W → Told W
nothing_told watch = record { observer = watch; refused = 0; first = None }

abbrev pub told_of : {R W : Type 0} → JsonLines R W → Told W
told_of lines = record {
  observer = lines.observer;
  refused = lines.refusals.count;
  first = lines.refusals.first;
}

-- a line: its values and then, if it is refused as a whole, the line; and its report, if it is the first refused one
pub record SeesLine {R W : Type 0} (task : JsonTask R) (A : List ℕ → AnswerText → Type 0) (Saw : Sight W) (number : ℕ)
    (line : List ℕ) (before after : Told W) : Type 0 where
  pub refused : Refused
  pub next : W
  pub values : SeesLineValues task A Saw number line before.observer refused next
  pub stop : ℕ
  pub stops : IsStop refused line stop
  pub whole : SeesRefused refused stop Saw number line next after.observer
  pub reply : List ℕ
  pub replied : HasReply refused A line reply
  pub count : after.refused ≡ refused_after refused before.refused
  pub first : after.first ≡ first_after before.first (report_of number refused stop line reply)

-- the kept bytes of these lines, in order, which follow `count` others
unfoldable pub SeesLines : {R W : Type 0} → JsonTask R → (List ℕ → AnswerText → Type 0) → Sight W → ℕ → List (List ℕ)
    → Told W → Told W → Type 0
SeesLines task A Saw count [] watch last = last ≡ watch
SeesLines {W = W} task A Saw count (line ∷ lines) watch last = (next : Told W)
    × SeesLine task A Saw (next_count count) (take kept_length line) watch next
    × SeesLines task A Saw (next_count count) lines next last

-- how many lines there are after these
unfoldable pub count_after : ℕ → List (List ℕ) → ℕ
count_after count [] = count
count_after count (line ∷ lines) = count_after (next_count count) lines
