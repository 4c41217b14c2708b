use Rattle.fixed_arrays.proofs.NameLemmas.{has_two_by}
use Rattle.fixed_arrays.proofs.form.has_two_underscores.Goals as goal

pub returns : goal.returns
returns c = has_two_by c.args.name.now c.find.result c.is_some.result c.find.ensures c.is_some.ensures
