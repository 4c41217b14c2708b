-- What a machine over lines makes of its input, and what a run of it leaves.
use Rattle.std.specs.Prelude.{◌≡◌, ◌≤◌, ◌+◌, ◌*◌, ◌-◌, ◌^◌, ◌||◌, ℕ, List, [], ◌∷◌, ◌++◌, Bool, false, length, min}
use Rattle.std.specs.Prelude.{take}
use Rattle.std.specs.declared.convert.Infallible.{Infallible}
use Rattle.line_engine.specs.AnswerText.{AnswerText}
use Rattle.line_engine.specs.Inner.Progress.{bytes_in}
use Rattle.line_engine.specs.Lines.{ended_lines, kept_length, lines, unended}
use Rattle.line_engine.specs.Output.{AreAnswers, any_fault, reply_line, written_of}
use Rattle.line_engine.specs.Program.{Outside, outside}
use Rattle.line_engine.specs.declared.status.Status.{Status}
use Rattle.run_engine.specs.LineStatus.{IsStatus}
use Rattle.run_engine.specs.Machines.{How, going, finished, lacking, stopped}
use Rattle.run_engine.specs.Run.{HasRun}
use Rattle.run_engine.specs.Seen.{Moment, Puts}
use Rattle.run_engine.specs.declared.engine.End.{End}
use Rattle.run_engine.specs.declared.lines.Lines.{Lines}
use Rattle.run_engine.specs.declared.pieces.Cut.{Cut}

-- the visible state of a run at one moment, without the gathered bytes
abbrev pub outside_at : Moment → Outside
outside_at m = outside m.seen.left m.seen.asked m.seen.read_failures m.seen.written m.seen.write_failures m.steps

-- the meaning `Is` of results holds for a line with this reply, or for its kept prefix
pub record IsOf {T : Type 0} (Is : List ℕ → AnswerText → T → Type 0) (line : List ℕ) (reply : AnswerText)
    (result : T) : Type 0 where
  pub told : List ℕ
  pub is : take kept_length told ≡ take kept_length line
  pub holds : Is told reply result

abbrev pub AreOf : {T : Type 0} → (List ℕ → AnswerText → T → Type 0) → List (List ℕ) → List AnswerText → List T
    → Type 0
AreOf Is [] [] [] = Unit {0}
AreOf Is [] [] (result ∷ results) = ⊥
AreOf Is [] (reply ∷ replies) results = ⊥
AreOf Is (line ∷ lines) [] results = ⊥
AreOf Is (line ∷ lines) (reply ∷ replies) [] = ⊥
AreOf Is (line ∷ lines) (reply ∷ replies) (result ∷ results) = IsOf Is line reply result
    × AreOf Is lines replies results

-- the next count, up to the last value of `u64`
abbrev pub one_more : ℕ → ℕ
one_more n = min (n + 1) (2 ^ 64 - 1)

-- an observer saw a line, or its kept prefix, with its number and its result
pub record Tells {W T : Type 0} (Saw : W → ℕ → List ℕ → T → W → Type 0)
    (watch : W) (number : ℕ) (line : List ℕ) (result : T) (then : W) : Type 0 where
  pub told : List ℕ
  pub is : take kept_length told ≡ take kept_length line
  pub saw : Saw watch number told result then

-- after `count` lines an observer saw these lines in order, each with its number and its result; it is then `last`, and
-- the count is `total`
abbrev pub SawAll : {W T : Type 0} → (W → ℕ → List ℕ → T → W → Type 0) → W → ℕ → List (List ℕ) → List T → W → ℕ
    → Type 0
SawAll Saw watch count [] [] last total = (last ≡ watch) × (total ≡ count)
SawAll Saw watch count [] (result ∷ results) last total = ⊥
SawAll Saw watch count (line ∷ lines) [] last total = ⊥
SawAll {W = W} Saw watch count (line ∷ lines) (result ∷ results) last total = (then : W)
    × Tells Saw watch (one_more count) line result then
    × SawAll Saw then (one_more count) lines results last total

-- the lines were answered with this text, in order, and the observer saw each; `has_fault` says whether one was
-- refused; the cost is at most `per_byte` steps for each byte and `extra` for each line
pub record AnswersLines {R W T : Type 0} (A : List ℕ → AnswerText → Type 0) (Is : List ℕ → AnswerText → T → Type 0)
    (Saw : W → ℕ → List ℕ → T → W → Type 0) (per_byte extra : ℕ) (first : Lines R W)
    (ls : List (List ℕ)) (text : List ℕ) (spent : ℕ) (last : Lines R W) : Type 0 where
  pub replies : List AnswerText
  pub results : List T
  pub answers : AreAnswers A ls replies
  pub are : AreOf Is ls replies results
  pub text_is : text ≡ written_of replies
  pub same : last.rule ≡ first.rule
  pub faulty : last.has_fault ≡ (first.has_fault || any_fault replies)
  pub saw : SawAll Saw first.watch first.count ls results last.watch last.count
  pub cost : spent ≤ per_byte * bytes_in ls + extra * length ls

-- the ended lines were answered, and a prefix of the next line is kept
pub record GoesOn {R W T : Type 0} (A : List ℕ → AnswerText → Type 0) (Is : List ℕ → AnswerText → T → Type 0)
    (Saw : W → ℕ → List ℕ → T → W → Type 0) (per_byte extra : ℕ) (first : Lines R W)
    (bytes text : List ℕ) (spent : ℕ) (last : Lines R W) : Type 0 where
  pub made : AnswersLines A Is Saw per_byte extra first (ended_lines bytes) text spent last
  pub line : last.line ≡ take kept_length (unended bytes)

-- all lines were answered, the last one too
pub record Ends {R W T : Type 0} (A : List ℕ → AnswerText → Type 0) (Is : List ℕ → AnswerText → T → Type 0)
    (Saw : W → ℕ → List ℕ → T → W → Type 0) (per_byte extra : ℕ) (first : Lines R W)
    (bytes text : List ℕ) (spent : ℕ) (fault : Bool) (last : Lines R W) : Type 0 where
  pub made : AnswersLines A Is Saw per_byte extra first (lines bytes) text spent last
  pub is : fault ≡ last.has_fault

-- what a machine makes of lines, by how it stands with its input
abbrev pub MakesLines : {R W T : Type 0} → (List ℕ → AnswerText → Type 0) → (List ℕ → AnswerText → T → Type 0)
    → (W → ℕ → List ℕ → T → W → Type 0) → ℕ → ℕ → Lines R W → List ℕ → List ℕ → ℕ → How Infallible
    → Lines R W → Type 0
MakesLines A Is Saw per_byte extra first bytes text spent going last =
    GoesOn A Is Saw per_byte extra first bytes text spent last
MakesLines A Is Saw per_byte extra first bytes text spent (finished fault) last =
    Ends A Is Saw per_byte extra first bytes text spent fault last
MakesLines A Is Saw per_byte extra first bytes text spent lacking last = ⊥
MakesLines A Is Saw per_byte extra first bytes text spent (stopped late why) last = ⊥

-- the answer to a line, or the text of its refusal, was appended without a newline, and the observer saw the line
pub record AnswersLine {W T : Type 0} (A : List ℕ → AnswerText → Type 0) (Is : List ℕ → AnswerText → T → Type 0)
    (Saw : W → ℕ → List ℕ → T → W → Type 0) (line : List ℕ) (number : ℕ) (old new : W)
    (held held' : List ℕ) (fault : Bool) : Type 0 where
  pub reply : AnswerText
  pub result : T
  pub answer : A line reply
  pub is : Is line reply result
  pub appended : held' ≡ held ++ reply.text
  pub faulty : fault ≡ reply.fault
  pub saw : Saw old number line result new

-- a line ended and was answered, in at most `per_byte` steps for each of its bytes plus `extra`
pub record EndsLine {R W T : Type 0} (A : List ℕ → AnswerText → Type 0) (Is : List ℕ → AnswerText → T → Type 0)
    (Saw : W → ℕ → List ℕ → T → W → Type 0) (per_byte extra : ℕ) (line : List ℕ)
    (old new : Lines R W) (a b : Moment) : Type 0 where
  pub reply : AnswerText
  pub result : T
  pub answer : A line reply
  pub is : IsOf Is line reply result
  pub puts : Puts a.seen b.seen a.held b.held (reply_line reply)
  pub same : new.rule ≡ old.rule
  pub faulty : new.has_fault ≡ (old.has_fault || reply.fault)
  pub tells : Tells Saw old.watch (one_more old.count) line result new.watch
  pub count : new.count ≡ one_more old.count
  pub cost : b.steps ≤ a.steps + per_byte * length line + extra

-- what a run over lines within a limit has taken, made and written, with this status; of the observer `watch` it has
-- made `last`
pub record HasLinesRun {R W T : Type 0} (rule : R) (A : List ℕ → AnswerText → Type 0)
    (Is : List ℕ → AnswerText → T → Type 0) (Saw : W → ℕ → List ℕ → T → W → Type 0) (per_byte extra limit : ℕ)
    (before after : Outside) (status : Status) (watch last : W) : Type 0 where
  pub first : Lines R W
  pub then : Cut (Lines R W)
  pub a : Moment
  pub b : Moment
  pub end : End Infallible
  pub answers_by : first.rule.now ≡ rule
  pub begins : first.watch ≡ watch
  pub no_line : first.count ≡ 0
  pub no_fault : first.has_fault ≡ false
  pub is_before : outside_at a ≡ before
  pub is_after : outside_at b ≡ after
  pub ends : IsStatus end status
  pub run : HasRun (λ bytes text spent how it. MakesLines A Is Saw per_byte extra first bytes text spent how it.0) then
      limit a b end
  pub kept : last ≡ then.0.watch
