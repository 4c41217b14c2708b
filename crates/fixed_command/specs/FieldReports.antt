-- What a report records of the fields of a text.
use Rattle.std.specs.Prelude.{◌≡◌, ◌==◌, ◌∷◌, ℕ, List, [], Bool, true, false, Option, None, Some, if◌then◌else◌, length}
use Rattle.column_engine.specs.declared.watch.FieldPlace.{FieldPlace}
use Rattle.fixed_report.specs.Report.{Kept}
use Rattle.line_engine.specs.AnswerText.{AnswerText}
use Rattle.fixed_command.specs.Convert.{without_return}
use Rattle.fixed_command.specs.Fields.{IsFieldOutcome, bare, field_numeral}
use Rattle.fixed_command.specs.Observed.{ErrorAddedIf}
use Rattle.fixed_command.specs.Outcome.{has_error, noted}
use Rattle.fixed_command.specs.Reports.{no_tally}
use Rattle.fixed_command.specs.declared.convert.Settings.{Settings}
use Rattle.fixed_command.specs.declared.field.FieldForm.{FieldForm}
use Rattle.fixed_command.specs.declared.field_report.FieldReport.{FieldReport}
use Rattle.fixed_command.specs.declared.outcome.Outcome.{Outcome}
use Rattle.fixed_command.specs.declared.outcome.Outcome.TheVariants.{Exact, Overflowed, Refused, Rounded}

-- a report of no fields
abbrev pub no_fields : Kept → FieldReport
no_fields errors = record { tally = no_tally; first_overflowed = None; first_refused = None; errors = errors }

-- the first place stays
abbrev pub first_place : Option FieldPlace → FieldPlace → Option FieldPlace
first_place None place = Some place
first_place (Some first) place = Some first

-- where the first field is that overflowed, and where the first is that was refused, after one more field
abbrev pub overflowed_after : Option FieldPlace → FieldPlace → Outcome → Option FieldPlace
overflowed_after first place Exact = first
overflowed_after first place Rounded = first
overflowed_after first place Overflowed = first_place first place
overflowed_after first place Refused = first

abbrev pub refused_after : Option FieldPlace → FieldPlace → Outcome → Option FieldPlace
refused_after first place Exact = first
refused_after first place Rounded = first
refused_after first place Overflowed = first
refused_after first place Refused = first_place first place

-- the report after one more field, without its error
abbrev pub noted_field : FieldReport → FieldPlace → Outcome → FieldReport
noted_field report place outcome = record report {
  tally = noted report.tally place.record outcome;
  first_overflowed = overflowed_after report.first_overflowed place outcome;
  first_refused = refused_after report.first_refused place outcome;
}

-- the numeral of a field; that of an empty field is a zero
abbrev pub numeral_of : FieldForm → List ℕ → List ℕ
numeral_of form field = if length (bare form field) == 0 then 48 ∷ [] else without_return (field_numeral form field)

-- the report after an answered field with this outcome; an empty field that stays has none
abbrev pub SawOutcome : FieldForm → Settings → FieldReport → FieldPlace → List ℕ → Option Outcome → FieldReport → Type 0
SawOutcome form s report place field None after = after ≡ report
SawOutcome form s report place field (Some outcome) after = (after ≡ record (noted_field report place outcome) {
  errors = after.errors;
}) × ErrorAddedIf (has_error s.spelling outcome) report.errors place.record (numeral_of form field) after.errors

-- the report after one more field, by whether it was refused
abbrev pub SawFieldBy : Bool → FieldForm → Settings → FieldReport → FieldPlace → List ℕ → FieldReport → Type 0
SawFieldBy true form s report place field after = after ≡ noted_field report place Refused
SawFieldBy false form s report place field after = (outcome : Option Outcome) × IsFieldOutcome form s field outcome
    × SawOutcome form s report place field outcome after

-- the report after one more field
abbrev pub SawField : FieldForm → Settings → FieldReport → FieldPlace → List ℕ → AnswerText → FieldReport → Type 0
SawField form s report place field reply after = SawFieldBy reply.fault form s report place field after
