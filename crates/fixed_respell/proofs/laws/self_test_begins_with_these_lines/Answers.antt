-- The lines are computed.
use Rattle.std.proofs.Common.{refl}
use Rattle.fixed_respell.specs.SelfMode.{number_text, self_line, self_lines}
use Rattle.fixed_respell.proofs.laws.self_test_begins_with_these_lines.Goals as goal

pub returns : goal.returns
unfolding number_text self_line self_lines
returns c = refl
