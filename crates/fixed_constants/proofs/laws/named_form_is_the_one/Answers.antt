use Rattle.fixed_constants.proofs.ProgramLemmas.{form_named, guard_named}
use Rattle.fixed_constants.proofs.laws.named_form_is_the_one.Goals as goal

pub returns : goal.returns
returns c args f g a b x y = (form_named args f g a b x y, guard_named args f g a b x y)
