use Rattle.line_engine.proofs.RunLawLemmas.{whole_output_one}
use Rattle.line_engine.proofs.laws.whole_output_is_the_one.Goals as goal

pub returns : goal.returns
returns g c = whole_output_one (g.R.WholeRule.Answers c.args._rule.now) (g.met.R.WholeRule.one_law c.args._rule.now)
