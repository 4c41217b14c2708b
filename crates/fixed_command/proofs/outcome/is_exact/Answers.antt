use Rattle.std.proofs.Common.{FitsSigned, refl, rules}
use Rattle.std.specs.Int.{w128}
use Rattle.std.proofs.lemmas.Int.{to_z-of_z}
use Rattle.fixed_command.proofs.OutcomeNumbers.{both_are}
use Rattle.fixed_command.proofs.outcome.is_exact.Goals as goal

pub returns : goal.returns
returns c =
    let fit : FitsSigned w128 c.args.number = search rules in
    both_are _ _ _ _ _ refl c.requires.whole (rw (to_z-of_z w128 c.args.number fit, c.frac_of-to.ensures.value, c.frac_of-from.ensures.value) at c.is_whole_moved.ensures)
