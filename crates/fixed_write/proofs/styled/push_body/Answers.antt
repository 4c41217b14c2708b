use Rattle.fixed_write.proofs.StyledLemmas.{point_notation, point_body, lower_body, upper_body}
use Rattle.fixed_write.proofs.styled.push_body.Goals as goal

pub push_point_body-requires-clause-notation : goal.push_point_body-requires-clause-notation
push_point_body-requires-clause-notation c = point_notation c.args.style.now.notation c.in_default.not-LowerExp c.in_default.not-UpperExp

pub returns-in-LowerExp-clause-body : goal.returns-in-LowerExp-clause-body
returns-in-LowerExp-clause-body c = rw c.in-LowerExp.is (lower_body _ _ _ _ _ _ c.push_exponent_body.ensures.body)

pub returns-in-UpperExp-clause-body : goal.returns-in-UpperExp-clause-body
returns-in-UpperExp-clause-body c = rw c.in-UpperExp.is (upper_body _ _ _ _ _ _ c.push_exponent_body-in-UpperExp.ensures.body)

pub returns-in_default-clause-body : goal.returns-in_default-clause-body
returns-in_default-clause-body c =
    point_body _ _ _ _ _ _ _ _ (point_notation c.args.style.now.notation c.in_default.not-LowerExp c.in_default.not-UpperExp) c.requires.empty c.requires.no_tail c.push_point_body.ensures.body
