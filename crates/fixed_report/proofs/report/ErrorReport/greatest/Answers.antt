use Rattle.std.proofs.Common.{◌∙◌, ap}
use Rattle.fixed_report.proofs.ReportLemmas.{greatest_some, text_none}
use Rattle.fixed_report.specs.Report.{Kept}
use Rattle.fixed_report.proofs.report.ErrorReport.greatest.Goals as goal

pub returns-in-Some-clause-place : goal.returns-in-Some-clause-place
returns-in-Some-clause-place g c = c.place.ensures ∙ ap (λ (k : Kept). k.greatest.place) c.self.view_is

pub returns-in-Some-clause-texts : goal.returns-in-Some-clause-texts
returns-in-Some-clause-texts g c =
    let inside : Kept = record { radix = c.self.inside.radix; format = c.self.inside.format; mode = c.self.inside.mode; greatest = c.self.inside.greatest; sums = c.self.inside.sums; lost = c.self.inside.lost } in
    greatest_some inside c.args.self.now c.numeral-numeral.result.now c.in-Some.said.error c.in-Some.said.ulps c.self.view_is c.numeral-numeral.ensures c.in-Some.ensures

pub returns-in-None-clause-none : goal.returns-in-None-clause-none
returns-in-None-clause-none g c =
    let inside : Kept = record { radix = c.self.inside.radix; format = c.self.inside.format; mode = c.self.inside.mode; greatest = c.self.inside.greatest; sums = c.self.inside.sums; lost = c.self.inside.lost } in
    text_none inside c.args.self.now c.numeral-numeral.result.now c.self.view_is c.numeral-numeral.ensures c.in-None.ensures
