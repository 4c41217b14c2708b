use Rattle.std.proofs.Common.{refl}
use Rattle.fixed_write.proofs.ScaleLemmas.{places_of}
use Rattle.fixed_write.proofs.StyledLemmas.{rounded_body}
use Rattle.fixed_write.proofs.styled.push_point_body.Goals as goal

pub returns-in-Some-clause-body : goal.returns-in-Some-clause-body
returns-in-Some-clause-body c =
    rw c.in-Some.is (rounded_body _ _ _ _ _ _ _ _ c.requires.frac c.min-places.ensures refl (places_of _ _ _ _ _ _ _ _ _ _ c.requires.frac c.split_of.ensures.whole c.split_of.ensures.rest c.push_rounded_body.ensures))
