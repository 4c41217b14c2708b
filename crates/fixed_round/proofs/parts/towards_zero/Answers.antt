use Rattle.std.proofs.Common.{rules, arith, ◌≡◌, ◌∙◌, FitsSigned}
use Rattle.std.specs.Int.{w128}
use Rattle.std.proofs.lemmas.Int.{ints, to_z-of_z}
use Rattle.fixed_round.proofs.PartLemmas.{to_zero_of_positive, to_zero_of_negative}
use Rattle.fixed_round.proofs.parts.towards_zero.Goals as goal

pub returns-then-b-lt0 : goal.returns-then-b-lt0
returns-then-b-lt0 c =
    let f : FitsSigned w128 c.whole_of.result = search rules in
    to_z-of_z w128 c.whole_of.result f ∙ (rw (to_z-of_z w128 c.args.b c.ranges.b) at c.whole_of.ensures) ∙ to_zero_of_negative c.args.b c.args.f (omega (arith, ints))

pub returns-else-b-lt0 : goal.returns-else-b-lt0
returns-else-b-lt0 c =
    let f : FitsSigned w128 c.whole_of-else-b-lt0.result = search rules in
    to_z-of_z w128 c.whole_of-else-b-lt0.result f ∙ (rw (to_z-of_z w128 c.args.b c.ranges.b) at c.whole_of-else-b-lt0.ensures) ∙ to_zero_of_positive c.args.b c.args.f (omega (arith, ints))
