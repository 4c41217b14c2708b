-- The runs over the raw words or floats of an input, from what its reader holds to what its writer contains.
use Rattle.std.specs.Prelude.{◌≡◌, ◌⊎◌, ◌*◌, ◌-◌, ◌^◌, ℕ, List, None, Option, Some, drop, min, option_map, take}
use Rattle.fixed_command.specs.Limits.{limit_of}
use Rattle.fixed_pack.specs.Amounts.{IsAmountLine}
use Rattle.fixed_pack.specs.Floats.{IsFloatWord, IsWordFloat, IsWordNot, IsWordRefused, float_size}
use Rattle.fixed_pack.specs.Recoded.{HasRecoded}
use Rattle.fixed_pack.specs.Repacked.{IsRepackRefused, IsRepacked}
use Rattle.fixed_pack.specs.Unpack.{IsWordLine, count_of}
use Rattle.fixed_pack.specs.Word.{word_length}
use Rattle.fixed_pack.specs.declared.float_words.FloatWords.{FloatWords}
use Rattle.fixed_pack.specs.declared.float_words.WordRefusal.{WordRefusal}
use Rattle.fixed_pack.specs.declared.recoder.RefusedWord.{RefusedWord}
use Rattle.fixed_pack.specs.declared.repack.Repack.{Repack}
use Rattle.fixed_pack.specs.declared.word_floats.WordFloats.{WordFloats}
use Rattle.fixed_pack.specs.declared.word_report.WordReport.{WordReport}
use Rattle.line_engine.specs.Program.{Outside}
use Rattle.line_engine.specs.declared.status.Status.{Status}
use Rattle.line_engine.specs.declared.status.Status.TheVariants.{Done, Faults}
use Rattle.run_engine.specs.Refused.{Counts}
use Rattle.run_engine.specs.declared.engine.End.{End}
use Rattle.fixed.specs.Ends.{status_of}
use Rattle.fixed.specs.Inputs.{RunsOver, seen_at}
use Rattle.fixed.specs.declared.commands.unpack.Unpacking.{Unpacking}
use Rattle.fixed.specs.declared.commands.unpack.Written.{Written}
use Rattle.fixed.specs.declared.commands.unpack.Written.TheVariants.{Amounts, Floats, Lines}
use Rattle.fixed.specs.declared.reports.ReportForm.{ReportForm}

-- a run that recodes words of `size` bytes within a limit by a rule, for which `R word made cause` says what a word
-- becomes, and `F word why` that it ends the input; an observer saw each word; its status is that of its end
pub record RunsRecode {Q W C : Type 0} (limit size : ℕ) (R : List ℕ → List ℕ → Option C → Type 0)
    (F : List ℕ → C → Type 0) (Saw : W → ℕ → List ℕ → Option C → W → Type 0) (rule : Q) (status : Status)
    (before after : Outside) : Type 0 where
  pub first : W
  pub last : W
  pub left_over : ℕ
  pub end : End (RefusedWord C)
  pub run : HasRecoded limit size R F Saw rule first last (seen_at before) (seen_at after) before.steps after.steps
      left_over end
  pub status_is : status ≡ status_of end

-- the words of an input are recoded
abbrev pub RecodesBetween : {Q W C : Type 0} → Option ℕ → ℕ → (List ℕ → List ℕ → Option C → Type 0)
    → (List ℕ → C → Type 0) → (W → ℕ → List ℕ → Option C → W → Type 0) → Q → Status → Option (List ℕ)
    → Option (List ℕ) → Option (List ℕ) → Type 0
RecodesBetween limit size R F Saw rule status = RunsOver (RunsRecode (limit_of limit) size R F Saw rule status)

-- what is not said of an observer
abbrev pub Unsaid : {W C : Type 0} → W → ℕ → List ℕ → Option C → W → Type 0
Unsaid watch number word cause then = Unit {0}

-- the same with no observer, or with one that keeps a report
abbrev pub RecodesWith : {Q : Type 0} → Option ReportForm → Option ℕ → ℕ
    → (List ℕ → List ℕ → Option WordRefusal → Type 0) → (List ℕ → WordRefusal → Type 0) → Q → Status → Option (List ℕ)
    → Option (List ℕ) → Option (List ℕ) → Type 0
RecodesWith None limit size R F rule = RecodesBetween limit size R F (Unsaid {W = Unit {0}}) rule
RecodesWith {Q = Q} (Some form) limit size R F rule = RecodesBetween limit size R F (Unsaid {W = WordReport Q}) rule

-- floats become words
abbrev pub PacksFloatsBetween : Option ReportForm → Option ℕ → FloatWords → Status → Option (List ℕ)
    → Option (List ℕ) → Option (List ℕ) → Type 0
PacksFloatsBetween form limit f = RecodesWith form limit (float_size f.layout) (IsFloatWord f) (IsWordNot f) f

-- words become floats
abbrev pub UnpacksFloatsBetween : Option ℕ → WordFloats → Status → Option (List ℕ) → Option (List ℕ)
    → Option (List ℕ) → Type 0
UnpacksFloatsBetween limit f = RecodesWith None limit (word_length f.format.width) (IsWordFloat f) (IsWordRefused f) f

-- words become words of another format
abbrev pub RepacksBetween : Option ReportForm → Option ℕ → Repack → Status → Option (List ℕ) → Option (List ℕ)
    → Option (List ℕ) → Type 0
RepacksBetween form limit r = RecodesWith form limit (word_length r.source.width) (IsRepacked r) (IsRepackRefused r) r

-- no word ends the input
abbrev pub Never : List ℕ → WordRefusal → Type 0
Never word why = ⊥

-- the length of a word in bytes
abbrev pub size_of : Written → ℕ
size_of (Lines r) = count_of r
size_of (Amounts r) = 8
size_of (Floats f) = word_length f.format.width

-- words become lines or floats
abbrev pub UnpacksBy : Written → Option ℕ → Status → Option (List ℕ) → Option (List ℕ) → Option (List ℕ) → Type 0
UnpacksBy (Lines r) limit = RecodesBetween limit (count_of r) (IsWordLine r) Never Counts r
UnpacksBy (Amounts r) limit = RecodesBetween limit 8 (IsAmountLine r) Never Counts r
UnpacksBy (Floats f) limit = UnpacksFloatsBetween limit f

-- the bytes of the requested words of an input
abbrev pub requested : Unpacking → Option (List ℕ) → Option (List ℕ)
requested u held = option_map (take (min (u.excerpt.count * size_of u.written) (2 ^ 64 - 1)))
    (option_map (drop u.excerpt.skip) held)

-- the status of an input: that of its run or, if bytes to skip are missing, `Faults` in place of `Done`
abbrev pub IsExcerptEnd : Status → Status → Type 0
IsExcerptEnd run end = (end ≡ run) ⊎ ((run ≡ Done) × (end ≡ Faults))

-- an input is unpacked as a job says
abbrev pub UnpackEndsBetween : Option ℕ → Unpacking → Status → Option (List ℕ) → Option (List ℕ) → Option (List ℕ)
    → Type 0
UnpackEndsBetween limit u end held old new = (run : Status) × IsExcerptEnd run end
    × UnpacksBy u.written limit run (requested u held) old new
