use Rattle.std.proofs.Common.{◌↔◌, IfOk, IsTrue, subst, sym}
use Rattle.fixed_command.specs.Outcome.{IsWholeSource}
use Rattle.fixed_command.specs.declared.spelling.Spelling.{Spelling}
use Rattle.fixed_command.proofs.convert.source_number.Goals as goal

pub returns-in-Numeral-clause-exact : goal.returns-in-Numeral-clause-exact
returns-in-Numeral-clause-exact g c =
    subst (λ (s : Spelling). IfOk c.read_numeral.result (λ f. IsTrue f.is_exact ↔ IsWholeSource s c.args.settings.now c.args.numeral.now)) (sym c.in-Numeral.is) c.read_numeral.ensures.exact
