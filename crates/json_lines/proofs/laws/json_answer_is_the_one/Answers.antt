use Rattle.json_lines.specs.Lemmas.RunLaws.{json_answer_one}
use Rattle.json_lines.proofs.laws.json_answer_is_the_one.Goals as goal

pub returns : goal.returns
returns g c = λ steps form. json_answer_one steps form (g.A.FieldRule.Answers c.args._rule.now) (g.met.A.FieldRule.one_law c.args._rule.now)
