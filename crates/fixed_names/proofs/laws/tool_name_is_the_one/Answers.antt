use Rattle.fixed_names.proofs.ToolNameLemmas.{tool_one}
use Rattle.fixed_names.proofs.laws.tool_name_is_the_one.Goals as goal

pub returns : goal.returns
returns c = tool_one
