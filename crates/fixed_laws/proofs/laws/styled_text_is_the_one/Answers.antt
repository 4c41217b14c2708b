use Rattle.fixed_laws.proofs.StyledLemmas.{styled_text_unique}
use Rattle.fixed_laws.proofs.laws.styled_text_is_the_one.Goals as goal

pub returns : goal.returns
returns c = styled_text_unique
