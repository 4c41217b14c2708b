use Rattle.fixed_error.proofs.HalfLemmas.{none_of_seven}
use Rattle.fixed_error.proofs.half.any_of_seven.Goals as goal

pub returns : goal.returns
returns c = λ i from below none. none_of_seven c.args.digits c.joined-two.result c.joined-four.result c.joined.result c.moved_up.result i from below c.joined-two.ensures c.joined-four.ensures c.joined.ensures c.moved_up.ensures none
