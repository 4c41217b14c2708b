use Rattle.line_engine.proofs.RunLawLemmas.{whole_run_end_one}
use Rattle.line_engine.proofs.laws.whole_run_end_is_the_one.Goals as goal

pub returns : goal.returns
returns g c = whole_run_end_one (g.R.WholeRule.Answers c.args._rule.now) (g.met.R.WholeRule.one_law c.args._rule.now)
