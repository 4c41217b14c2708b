-- What observers record of the lines of a task.
use Rattle.std.specs.Prelude.{◌≡◌, ◌++◌, ◌∷◌, ℕ, List, [], Bool, true, false, Option, None, Some, MatchOption}
use Rattle.std.specs.Prelude.{Result, Ok, Err, take}
use Rattle.fixed_report.specs.Report.{HasReport, HasSums, IsLostBy, Kept}
use Rattle.run_engine.specs.Refused.{SawRefused}
use Rattle.run_engine.specs.declared.refusals.RefusedLine as engine
use Rattle.run_engine.specs.declared.refusals.Refusals.{Refusals}
use Rattle.fixed_command.specs.Convert.{without_return}
use Rattle.fixed_command.specs.Layout.{LineLayout, answered_line, is_skipped, numeral_of}
use Rattle.fixed_command.specs.Outcome.{IsOutcome, has_error, noted}
use Rattle.fixed_command.specs.Watched.{kept_bytes}
use Rattle.fixed_command.specs.declared.layout.LaidOutRule.{LaidOutRule}
use Rattle.fixed_command.specs.declared.message.Message.{Message}
use Rattle.fixed_command.specs.declared.observed.LineReport.{LineReport}
use Rattle.fixed_command.specs.declared.outcome.Outcome.{Outcome}
use Rattle.fixed_command.specs.declared.outcome.Outcome.TheVariants.{Refused}
use Rattle.fixed_command.specs.declared.outcome.Tally.{Tally}
use Rattle.fixed_command.specs.declared.watch.RefusedLine.{RefusedLine}

-- what a report says of the first refused line
abbrev pub reported_of : {C : Type 0} → (C → List ℕ) → Option (engine.RefusedLine C) → Option RefusedLine
reported_of message None = None
reported_of message (Some line) = Some (record {
  number = line.number;
  text = take kept_bytes line.line;
  cause = take kept_bytes (message line.cause);
})

-- the record of refused lines after one more line, without one carriage return at its end
abbrev pub SawReturned : {N : Type 0} → Refusals Message → ℕ → List ℕ → Result N Message → Refusals Message → Type 0
SawReturned watch number line result then = SawRefused watch number (without_return line) result then

-- the record of refused lines after one more line, by its recorded part as it was answered
abbrev pub SawLaid : {N C : Type 0} → (List ℕ → List ℕ) → LineLayout → Refusals C → ℕ → List ℕ → Result N C
    → Refusals C → Type 0
SawLaid recorded l watch number line result then = SawRefused watch number (recorded (answered_line l line)) result then

-- the outcome of the numeral of a line that is answered; a skipped line has none
abbrev pub IsLineOutcome : LaidOutRule → List ℕ → Option Outcome → Type 0
IsLineOutcome laid line note = MatchOption note (is_skipped laid.layout line ≡ true)
    (λ outcome. IsOutcome outcome laid.rule (numeral_of laid.layout line))

-- the tally after the line of this number
abbrev pub tally_after : Tally → ℕ → Result (Option Outcome) Message → Tally
tally_after tally number (Ok None) = tally
tally_after tally number (Ok (Some outcome)) = noted tally number outcome
tally_after tally number (Err message) = noted tally number Refused

-- the report of errors after one more numeral, in the line of this number
pub record IsErrorAdded (k : Kept) (number : ℕ) (numeral : List ℕ) (then : Kept) : Type 0 where
  pub radix : then.radix ≡ k.radix
  pub format : then.format ≡ k.format
  pub mode : then.mode ≡ k.mode
  pub one_more : (entries : List _) → HasReport k.mode k.radix k.format entries k.lost k.greatest
      → HasReport k.mode k.radix k.format (entries ++ record { place = number; numeral = numeral } ∷ []) then.lost
      then.greatest
  pub sums : (entries : List _) → HasSums k.mode k.radix k.format entries k.lost k.sums
      → HasSums k.mode k.radix k.format (entries ++ record { place = number; numeral = numeral } ∷ []) then.lost
      then.sums
  pub lost : IsLostBy k numeral then.lost

-- that, if the numeral has an error; else the report stays
abbrev pub ErrorAddedIf : Bool → Kept → ℕ → List ℕ → Kept → Type 0
ErrorAddedIf true k number numeral then = IsErrorAdded k number numeral then
ErrorAddedIf false k number numeral then = then ≡ k

abbrev pub ErrorAdded : LaidOutRule → Kept → ℕ → List ℕ → Outcome → Kept → Type 0
ErrorAdded laid k number line outcome then = ErrorAddedIf (has_error laid.rule.spelling outcome) k number
    (numeral_of laid.layout line) then

-- the report of the greatest error after the line of this number
abbrev pub ErrorsAfter : LaidOutRule → Kept → ℕ → List ℕ → Result (Option Outcome) Message → Kept → Type 0
ErrorsAfter laid k number line (Ok None) then = then ≡ k
ErrorsAfter laid k number line (Ok (Some outcome)) then = ErrorAdded laid k number line outcome then
ErrorsAfter laid k number line (Err message) then = then ≡ k

-- how the report changes with the line of this number
pub record SawCounted (laid : LaidOutRule) (watch : LineReport) (number : ℕ) (line : List ℕ)
    (result : Result (Option Outcome) Message) (then : LineReport) : Type 0 where
  pub refusals : SawReturned watch.refusals number line result then.refusals
  pub tally : then.tally ≡ tally_after watch.tally number result
  pub errors : ErrorsAfter laid watch.errors number line result then.errors
