use Rattle.std.proofs.Common.{◌∙◌, ap}
use Rattle.fixed_report.specs.Text.{greatest_text}
use Rattle.fixed_report.proofs.report.ErrorReport.text.Goals as goal

pub returns-in-Some-clause-text : goal.returns-in-Some-clause-text
returns-in-Some-clause-text g c = record {
  error = c.in-Some.said.error;
  ulps = c.in-Some.said.ulps;
  shown = c.in-Some.ensures.texts;
  text_is = c.push_greatest.ensures ∙ ap (λ p. greatest_text c.args.name.now p c.in-Some.said.error c.in-Some.said.ulps) c.in-Some.ensures.place;
}
