use Rattle.fixed_show.proofs.LineLemmas.{key_label, line_label}
use Rattle.fixed_show.proofs.form.push_label.Goals as goal

pub returns-in-Lines-clause-appended : goal.returns-in-Lines-clause-appended
returns-in-Lines-clause-appended g c = line_label c.args.form c.args.out.now c.push_bytes.new.self c.push_bytes-in-Lines.new.self c.args.key.now c.in-Lines.is c.push_bytes.ensures c.push_bytes-in-Lines.ensures

pub returns-in-Members-clause-appended : goal.returns-in-Members-clause-appended
returns-in-Members-clause-appended g c = key_label c.args.form c.args.out.now c.push_bytes-in-Members.new.self c.push_bytes-in-Members-2.new.self c.push_bytes-in-Members-3.new.self c.args.key.now c.in-Members.is c.push_bytes-in-Members.ensures c.push_bytes-in-Members-2.ensures c.push_bytes-in-Members-3.ensures
