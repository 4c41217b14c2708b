use Rattle.fixed_arrays.proofs.LiteralLemmas.{is_empty}
use Rattle.fixed_arrays.proofs.literals.fault_without_format.Goals as goal

pub returns-in-Ok : goal.returns-in-Ok
returns-in-Ok c = is_empty c.args.text.now _ c.in-Ok.ensures.constants c.requires
