use Rattle.fixed_laws.proofs.StyledLemmas.{styled_text_exists}
use Rattle.fixed_laws.proofs.laws.styled_text_exists.Goals as goal

pub returns : goal.returns
returns c = styled_text_exists
