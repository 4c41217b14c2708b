use Rattle.fixed_write.proofs.ScaleLemmas.{exact_places_of}
use Rattle.fixed_write.proofs.StyledLemmas.{exact_two, exact_eight, exact_lower, exact_upper}
use Rattle.fixed_write.proofs.styled.push_plain_body.Goals as goal

pub returns-in-Bin : goal.returns-in-Bin
returns-in-Bin c = rw c.in-Bin.is (exact_two _ _ _ _ (exact_places_of _ _ _ _ _ _ _ _ c.requires.frac c.split_of-value.ensures.whole c.split_of-value.ensures.rest c.push_exact_in.ensures))

pub returns-in-Oct : goal.returns-in-Oct
returns-in-Oct c = rw c.in-Oct.is (exact_eight _ _ _ _ (exact_places_of _ _ _ _ _ _ _ _ c.requires.frac c.split_of-value.ensures.whole c.split_of-value.ensures.rest c.push_exact_in-in-Oct.ensures))

pub returns-in-LowerHex : goal.returns-in-LowerHex
returns-in-LowerHex c = rw c.in-LowerHex.is (exact_lower _ _ _ _ (exact_places_of _ _ _ _ _ _ _ _ c.requires.frac c.split_of-value.ensures.whole c.split_of-value.ensures.rest c.push_exact_in-in-LowerHex.ensures))

pub returns-in-UpperHex : goal.returns-in-UpperHex
returns-in-UpperHex c = rw c.in-UpperHex.is (exact_upper _ _ _ _ (exact_places_of _ _ _ _ _ _ _ _ c.requires.frac c.split_of-value.ensures.whole c.split_of-value.ensures.rest c.push_exact_in-in-UpperHex.ensures))
