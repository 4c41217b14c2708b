use Rattle.std.proofs.Common.{◌∙◌}
use Rattle.fixed_report.proofs.TextLemmas.{whole_more}
use Rattle.fixed_report.proofs.text.+whole_of.Goals as goal

pub returns-then-count-gt0 : goal.returns-then-count-gt0
returns-then-count-gt0 t c = c.whole_of.ensures ∙ whole_more c.args.number c.args.count c.if-count-gt0.true
