use Rattle.column_engine.proofs.ReplaceLemmas.{fields_are_replaced}
use Rattle.column_engine.proofs.laws.fields_are_replaced.Goals as goal

pub returns : goal.returns
returns g c = fields_are_replaced (g.A.FieldRule.Answers c.args._rule.now)
