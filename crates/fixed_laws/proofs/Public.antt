-- Lemmas for the proofs of dependent crates.
use Rattle.fixed_laws.specs.Styling.{StyledTextIsTheOne}
use Rattle.fixed_laws.proofs.StyledLemmas

pub styled_text_unique : StyledTextIsTheOne
styled_text_unique = StyledLemmas.styled_text_unique
