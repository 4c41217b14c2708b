use Rattle.fixed_report.proofs.ReportLemmas.{in_within, ulps_of}
use Rattle.fixed_report.proofs.report.ulps_in.Goals as goal

pub returns-in-Ok-clause-within : goal.returns-in-Ok-clause-within
returns-in-Ok-clause-within g c = in_within c.args.mode c.args.radix c.args.format c.args.numeral.now _ _ c.width-width.ensures.valid.is_width c.in-Ok.ensures.read

pub returns-in-Ok-clause-ulps : goal.returns-in-Ok-clause-ulps
returns-in-Ok-clause-ulps g c = ulps_of c.args.mode c.args.radix c.args.format c.args.numeral.now c.in-Ok.image.negative c.in-Ok.image.magnitude c.in-Ok.image.is_out_of_range c.in-Ok.ensures.read
