use Rattle.std.proofs.Common.{◌∙◌, Bool, ap, subst, sym}
use Rattle.std.specs.Prelude.{codes}
use Rattle.command_line.specs.Words.{keyword_at, value_of}
use Rattle.fixed.specs.Constants.{IsGuardAsked, is_header}
use Rattle.fixed.proofs.LawLemmas.{constants_one}
use Rattle.fixed.proofs.commands.constants.literals_of.Goals as goal

pub returns-in-Err-clause-refused : goal.returns-in-Err-clause-refused
returns-in-Err-clause-refused c rule files asked =
    let given = c.args.given.now in
    let form = (constants_one.form (keyword_at given 0) rule.form c.form_and_files-form.result.0 files c.form_and_files-form.result.1 asked.form c.form_and_files-form.ensures).0 in
    c.in-Err.ensures.refused rule.guard.now
    (subst (λ (h : Bool). IsGuardAsked h (value_of given (codes "guard")) rule.guard.now) (ap is_header form ∙ sym c.is_header.ensures) asked.guard)
