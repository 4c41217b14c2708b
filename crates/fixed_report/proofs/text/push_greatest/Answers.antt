use Rattle.std.proofs.Common.{◌∙◌, ◌++◌, ap}
use Rattle.fixed_report.proofs.ReportLemmas.{greatest_pushed}
use Rattle.fixed_report.proofs.text.push_greatest.Goals as goal

pub returns : goal.returns
returns c = greatest_pushed c.args.out.now c.push_bytes.new.self c.push_bytes-2.new.self c.push.new.self c.push_bytes-3.new.self c.push_bytes-4.new.self c.push_bytes-5.new.self c.push_bytes-6.new.self c.push_bytes-7.new.self c.args.name.now c.as_bytes.result.now c.args.said.now.error c.args.said.now.ulps c.args.place c.requires.empty c.push_bytes.ensures c.push_bytes-2.ensures c.push.ensures c.push_bytes-3.ensures (c.as_bytes.ensures.value ∙ c.format.ensures.text) c.push_bytes-4.ensures (c.push_bytes-5.ensures ∙ ap (λ t. c.push_bytes-4.new.self ++ t) c.as_bytes-2.ensures.value) c.push_bytes-6.ensures (c.push_bytes-7.ensures ∙ ap (λ t. c.push_bytes-6.new.self ++ t) c.as_bytes-3.ensures.value)
