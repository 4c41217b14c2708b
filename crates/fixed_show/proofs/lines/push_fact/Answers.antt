use Rattle.fixed_show.proofs.LineLemmas.{fact_pushed}
use Rattle.fixed_show.proofs.lines.push_fact.Goals as goal

pub returns-clause-appended : goal.returns-clause-appended
returns-clause-appended g c = fact_pushed c.args.form c.args.out.now c.push_label.new.out c.push_bytes.new.self c.push.new.self c.args.key.now c.args.text.now c.end_byte.result c.push_label.ensures.appended c.push_bytes.ensures c.end_byte.ensures c.push.ensures
