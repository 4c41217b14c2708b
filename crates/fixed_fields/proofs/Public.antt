-- Lemmas for the proofs of dependent crates.
use Rattle.fixed_fields.specs.Laws.{FieldsAnswerIsTheOne}
use Rattle.fixed_fields.proofs.FieldLemmas

pub fields_answer_one : FieldsAnswerIsTheOne
fields_answer_one = FieldLemmas.fields_answer_one
