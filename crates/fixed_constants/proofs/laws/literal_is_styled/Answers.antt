use Rattle.fixed_constants.proofs.LiteralLemmas.{styled_literal}
use Rattle.fixed_constants.proofs.laws.literal_is_styled.Goals as goal

pub returns : goal.returns
returns c = styled_literal
