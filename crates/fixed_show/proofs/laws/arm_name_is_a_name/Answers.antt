use Rattle.fixed_show.proofs.ToolNameLemmas.{arm_name_named}
use Rattle.fixed_show.proofs.laws.arm_name_is_a_name.Goals as goal

pub returns : goal.returns
returns c = arm_name_named
