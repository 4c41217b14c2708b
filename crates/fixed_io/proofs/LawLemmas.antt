-- A run has one report and one exit code.
use Rattle.std.proofs.Common.{◌≡◌, ◌-◌, ◌^◌, ◌<◌, ℕ, List, [], ◌∷◌, Some, inl, inr, refl, sym, ap, ◌∙◌}
use Rattle.line_engine.specs.Program.{Outside}
use Rattle.line_engine.specs.Status.{code_of}
use Rattle.line_engine.specs.declared.status.Status.{Status}
use Rattle.line_engine.proofs.Public.{not_failed}
use Rattle.fixed_io.specs.Laws.{ReportIsTheOne, RunBetweenIsTheOne}
use Rattle.fixed_io.specs.Report.{TellsLine, cause_of}

line_one : (place cause : List ℕ) (answered : ℕ) (before a b : List ℕ) (failures : ℕ) → failures < 2 ^ 64 - 1
    → TellsLine place cause answered (Some before) (Some a) failures failures → TellsLine place cause answered (Some before) (Some b) failures failures → a ≡ b
line_one place [] answered before a b failures room x y = x.0 ∙ sym y.0
line_one place (c ∷ cs) answered before a b failures room (s, inl x) (t, inl y) = x.1 ∙ sym y.1
line_one place (c ∷ cs) answered before a b failures room (s, inl x) (t, inr y) = absurd (not_failed failures failures room refl y.2)
line_one place (c ∷ cs) answered before a b failures room (s, inr x) (t, y) = absurd (not_failed failures failures room refl x.2)

pub report_one : ReportIsTheOne
report_one place code answered before a b failures room x y = line_one place (cause_of code) answered before a b failures room x y

pub between_one : (Runs : Outside → Outside → Status → Type 0) → RunBetweenIsTheOne Runs
between_one Runs before after code other one x y =
    let same : x.status ≡ y.status = one x.holds.steps y.holds.steps x.status y.status x.holds.runs y.holds.runs in
    x.code_is ∙ ap code_of same ∙ sym y.code_is
