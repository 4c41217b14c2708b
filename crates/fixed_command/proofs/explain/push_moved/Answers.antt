use Rattle.std.proofs.Common.{rules, FitsSigned, arith, subst}
use Rattle.std.specs.Int.{w128}
use Rattle.std.proofs.lemmas.Int.{to_z-of_z}
use Rattle.fixed_convert.specs.Rounded.{IsMovedIn}
use Rattle.fixed_command.specs.Explained.{IsFoundIfWide, IsReachedText}
use Rattle.fixed_command.proofs.explain.push_moved.Goals as goal

pub returns-else-from-to-clause-appended : goal.returns-else-from-to-clause-appended
returns-else-from-to-clause-appended c = λ v is.
    let s = c.args.settings.now in
    let fit : FitsSigned w128 c.args.number = search rules in
    let found : IsMovedIn s.target_mode c.args.number s.source.frac s.target.frac v → IsFoundIfWide v c.moved_wide.result = rw (to_z-of_z w128 c.args.number fit) at (c.moved_wide.ensures.number v) in
    let pushed : _ = c.push_number.ensures.appended v (found is) in (
      pushed.0,
      (
        λ longer. absurd (omega (arith, longer, c.if-from-to.false, c.frac_of-from.ensures.value, c.frac_of-to.ensures.value)),
        λ shorter. subst (λ f. IsReachedText v f pushed.0) c.frac_of-to.ensures.value pushed.1,
      ),
      pushed.2,
    )
