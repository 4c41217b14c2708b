use Rattle.fixed_names.proofs.ToolNameLemmas.{whole_found}
use Rattle.fixed_names.proofs.tool_names.whole_in.Goals as goal

pub returns-in-Some-count_of : goal.returns-in-Some-count_of
returns-in-Some-count_of c = whole_found c.args.signed c.args.word.now c.in-Some.digits.now c.in-Some-count_of.width c.of_any_width.result (rw c.head_of.ensures at c.in-Some.ensures) c.in-Some-count_of.ensures.0 c.in-Some-count_of.ensures.1 c.of_any_width.ensures.exists c.of_any_width.ensures.parts
