-- How a report is written.
use Rattle.std.specs.Prelude.{List, None, Option, Some, codes, if◌then◌else◌, ℕ}
use Rattle.std.specs.Str.{bytes_eq}
use Rattle.fixed.specs.declared.reports.ReportForm.{ReportForm}
use Rattle.fixed.specs.declared.reports.ReportForm.TheVariants.{Json, Text}

-- the form that the value of the option names; without the option there is no report
abbrev pub form_named : Option (List ℕ) → Option ReportForm
form_named None = None
form_named (Some word) = Some (if bytes_eq word (codes "json") then Json else Text)
