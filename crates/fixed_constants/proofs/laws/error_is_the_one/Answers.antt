use Rattle.fixed_constants.proofs.NamedLawLemmas.{error_one, form_error_one}
use Rattle.fixed_constants.proofs.laws.error_is_the_one.Goals as goal

pub returns : goal.returns
returns c = record { plain = error_one; form = form_error_one }
