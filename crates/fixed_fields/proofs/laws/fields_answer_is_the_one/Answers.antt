use Rattle.fixed_fields.proofs.FieldLemmas.{fields_answer_one}
use Rattle.fixed_fields.proofs.laws.fields_answer_is_the_one.Goals as goal

pub returns : goal.returns
returns c = fields_answer_one
