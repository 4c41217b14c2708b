use Rattle.std.proofs.Common.{rules}
use Rattle.fixed_show.proofs.show.push_show_facts.Goals as goal

pub returns-in-Ok-clause-facts : goal.returns-in-Ok-clause-facts
returns-in-Ok-clause-facts g c = c.push_shown.ensures.shown c.args.mode c.args.policy c.in-Ok.ensures.read

pub push_shown-requires : goal.push_shown-requires
push_shown-requires g c = (search rules, ((c.in-Ok.ensures.read.parts, c.in-Ok.ensures.read.numeral), (c.in-Ok.ensures.wide, c.requires.room)))
