use Rattle.fixed_c.proofs.StyleLemmas
use Rattle.fixed_c.proofs.laws.styled_ends_once.Goals as goal

pub returns : goal.returns
returns c = StyleLemmas.styled_ends_once c.styled_text_is_the_one.ensures
