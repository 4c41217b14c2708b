use Rattle.fixed_show.proofs.LineLemmas.{line_pushed}
use Rattle.fixed_show.proofs.lines.push_line.Goals as goal

pub returns-clause-appended : goal.returns-clause-appended
returns-clause-appended g c = line_pushed c.args.out.now c.push_bytes.new.self c.push_bytes-2.new.self c.push.new.self c.args.label.now c.args.text.now c.push_bytes.ensures c.push_bytes-2.ensures c.push.ensures
