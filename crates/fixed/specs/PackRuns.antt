-- The run of `fixed pack` over an input, from what its reader holds to what its writer contains.
use Rattle.std.specs.Prelude.{◌≡◌, ℕ, List, None, Option, Some}
use Rattle.fixed_command.specs.Layout.{LineLayout}
use Rattle.fixed_command.specs.Limits.{limit_of}
use Rattle.fixed_pack.specs.Amounts.{IsAmountPacked, IsAmountRefused}
use Rattle.fixed_pack.specs.Bits.{AreBitsPacked, AreBitsRefused}
use Rattle.fixed_pack.specs.LaidOut.{PacksLaidOut, RefusesLaidOut}
use Rattle.fixed_pack.specs.Pack.{IsPacked, IsRefused}
use Rattle.fixed_pack.specs.Packed.{HasPacked}
use Rattle.fixed_pack.specs.declared.laid_out.LaidOutPack.{LaidOutPack}
use Rattle.line_engine.specs.Program.{Outside}
use Rattle.line_engine.specs.declared.status.Status.{Status}
use Rattle.run_engine.specs.declared.engine.End.{End}
use Rattle.run_engine.specs.declared.refusals.RefusedLine.{RefusedLine}
use Rattle.fixed.specs.Ends.{status_of}
use Rattle.fixed.specs.Inputs.{RunsBetween, seen_at}
use Rattle.fixed.specs.declared.commands.pack.LinesRule.{LinesRule}
use Rattle.fixed.specs.declared.commands.pack.LinesRule.TheVariants.{Amounts, Bits, Numerals}
use Rattle.fixed.specs.declared.commands.pack.PackTask.{PackTask}

-- a run that packs lines within a limit by a rule, for which `P line word` says what a line becomes, and `F line why`
-- that it is refused; its status is that of its end
pub record RunsPack {Q C : Type 0} (limit : ℕ) (P : List ℕ → List ℕ → Type 0) (F : List ℕ → C → Type 0) (rule : Q)
    (status : Status) (before after : Outside) : Type 0 where
  pub end : End (RefusedLine C)
  pub run : HasPacked limit P F rule (seen_at before) (seen_at after) before.steps after.steps end
  pub status_is : status ≡ status_of end

-- the lines of an input are packed
abbrev pub PacksBetween : {Q C : Type 0} → Option ℕ → (List ℕ → List ℕ → Type 0) → (List ℕ → C → Type 0) → Q → Status
    → Option (List ℕ) → Option (List ℕ) → Option (List ℕ) → Type 0
PacksBetween limit P F rule status = RunsBetween (RunsPack (limit_of limit) P F rule status)

-- lines with a layout, if there is one, are packed
abbrev pub PacksLinesBetween : {Q C : Type 0} → Option LineLayout → Option ℕ → (List ℕ → List ℕ → Type 0)
    → (List ℕ → C → Type 0) → Q → Status → Option (List ℕ) → Option (List ℕ) → Option (List ℕ) → Type 0
PacksLinesBetween None limit P F rule status held old new = PacksBetween limit P F rule status held old new
PacksLinesBetween {Q = Q} (Some l) limit P F rule status held old new = (laid : LaidOutPack Q)
    × PacksBetween limit (PacksLaidOut l P) (RefusesLaidOut l F) laid status held old new

-- the same by the rule that a job names
abbrev pub PacksByRule : LinesRule → Option LineLayout → Option ℕ → Status → Option (List ℕ) → Option (List ℕ)
    → Option (List ℕ) → Type 0
PacksByRule (Numerals s) l limit = PacksLinesBetween l limit (IsPacked s) (IsRefused s) s
PacksByRule (Bits s) l limit = PacksLinesBetween l limit (AreBitsPacked s) (AreBitsRefused s) s
PacksByRule (Amounts s) l limit = PacksLinesBetween l limit (IsAmountPacked s) (IsAmountRefused s) s

-- an input is packed as a job says
abbrev pub PackEndsBetween : Option ℕ → PackTask → Status → Option (List ℕ) → Option (List ℕ) → Option (List ℕ)
    → Type 0
PackEndsBetween limit task = PacksByRule task.rule task.layout limit
