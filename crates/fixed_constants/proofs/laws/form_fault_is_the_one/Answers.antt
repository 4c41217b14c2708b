use Rattle.fixed_constants.specs.Lemmas.FormLemmas.{form_fault_one}
use Rattle.fixed_constants.proofs.laws.form_fault_is_the_one.Goals as goal

pub returns : goal.returns
returns c form guard text p q f g x y = let same = form_fault_one form guard text p q f g x y in (same.line, same.fault)
