-- Lemmas for the proofs of dependent crates: laws of names and of blocks.
use Rattle.std.specs.Prelude.{List, ℕ, true, false}
use Rattle.fixed_show.specs.declared.form.Form.{Form}
use Rattle.fixed_amounts.specs.Facts.{AreFacts}
use Rattle.fixed_amounts.specs.Laws.{AmountBlockIsTheOne, AmountObjectIsTheOne, DecimalNameIsTheOne}
use Rattle.fixed_amounts.specs.declared.facts.AmountQuestion.{AmountQuestion}
use Rattle.fixed_amounts.proofs.FactLemmas
use Rattle.fixed_amounts.proofs.NameLemmas

pub decimal_name_one : DecimalNameIsTheOne
decimal_name_one = NameLemmas.decimal_name_one

pub amount_block_one : AmountBlockIsTheOne
amount_block_one = FactLemmas.amount_block_one

pub amount_object_one : AmountObjectIsTheOne
amount_object_one = FactLemmas.amount_object_one

pub facts_apart : (form : Form) (q : AmountQuestion) (word a b : List ℕ) → AreFacts form q word true a → AreFacts form q word false b → ⊥
facts_apart = FactLemmas.facts_apart
