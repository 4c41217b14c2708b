use Rattle.fixed_error.specs.Inner.Rest.{rest_of_word}
use Rattle.fixed_error.proofs.rest.rest_of_word.Goals as goal

pub returns : goal.returns
unfolding rest_of_word
returns c = rw (c.from-unit.ensures, c.from.ensures)
