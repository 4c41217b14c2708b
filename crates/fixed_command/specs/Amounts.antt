-- What a run over lines with amounts leaves.
use Rattle.std.specs.Prelude.{◌≡◌, ℕ, List, None, Result}
use Rattle.fixed_amounts.specs.Reply.{IsReply, fault_text}
use Rattle.fixed_amounts.specs.declared.fault.AmountFault.{AmountFault}
use Rattle.fixed_respell.specs.Refusal.{refusal_text}
use Rattle.fixed_respell.specs.declared.refusal.Refusal.{Refusal}
use Rattle.line_engine.specs.AnswerText.{AnswerText}
use Rattle.line_engine.specs.Program.{Outside}
use Rattle.line_engine.specs.declared.status.Status.{Status}
use Rattle.run_engine.specs.LineRun.{HasLinesRun}
use Rattle.run_engine.specs.Refused.{SawRefused}
use Rattle.run_engine.specs.Reply.{Returns}
use Rattle.run_engine.specs.declared.refusals.Refusals.{Refusals}
use Rattle.fixed_command.specs.Layout.{IsLaidOut}
use Rattle.fixed_command.specs.declared.amounts.AmountLines.{AmountLines}

-- the answer to a line
abbrev pub IsAmountLine : AmountLines → List ℕ → AnswerText → Type 0
IsAmountLine lines line answer = IsLaidOut lines.layout (IsReply lines.settings) line answer

-- what is returned for a line with this answer
abbrev pub ReturnsAmount : List ℕ → AnswerText → Result (Unit {0}) (Refusal AmountFault) → Type 0
ReturnsAmount = Returns (λ line note. Unit {0}) (refusal_text fault_text)

-- what a run within a limit has taken, made and written, with this status, and its record of refused lines
pub record HasAmountsRun (limit : ℕ) (lines : AmountLines) (before after : Outside) (status : Status)
    (refusals : Refusals (Refusal AmountFault)) : Type 0 where
  pub first : Refusals (Refusal AmountFault)
  pub no_refusal : first.count ≡ 0
  pub none : first.first ≡ None
  pub run : HasLinesRun lines (IsAmountLine lines) ReturnsAmount SawRefused 8 128 limit before after status first
      refusals
