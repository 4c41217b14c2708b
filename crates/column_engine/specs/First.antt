-- What an observer records of the first refused field.
use Rattle.std.specs.Prelude.{ℕ, List, Option, None, Some, if◌then◌else◌, take}
use Rattle.line_engine.specs.AnswerText.{AnswerText}
use Rattle.column_engine.specs.declared.first.RefusedField.{RefusedField}
use Rattle.column_engine.specs.declared.watch.FieldPlace.{FieldPlace}

-- the record of a refused field, with at most the first 160 bytes of its text and of its reply
abbrev pub refused_field : FieldPlace → List ℕ → List ℕ → RefusedField
refused_field place field reply = record { place = place; text = take 160 field; reply = take 160 reply }

-- the first record stays
abbrev pub first_or : Option RefusedField → Option RefusedField → Option RefusedField
first_or None next = next
first_or (Some first) next = Some first

-- the record of the first refused field after one more field
abbrev pub first_after : Option RefusedField → FieldPlace → List ℕ → AnswerText → Option RefusedField
first_after first place field reply =
    if reply.fault then first_or first (Some (refused_field place field reply.text)) else first
