use Rattle.std.proofs.Common.{ℕ, List, sym, subst}
use Rattle.std.specs.Prelude.{Option}
use Rattle.fixed.specs.Constants.{IsListBy}
use Rattle.fixed.proofs.JobLemmas.{list_refused}
use Rattle.fixed.proofs.commands.constants.list_of.Goals as goal

pub returns-in-Err-reading_of-clause-refused : goal.returns-in-Err-reading_of-clause-refused
returns-in-Err-reading_of-clause-refused c list asked =
    let given = c.args.given.now in
    list_refused given c.in-Some.word.now c.args.form c.args.layout.now c.in-Err-reading_of.ensures.refused list
    (subst (λ (o : Option (List ℕ)). IsListBy o given c.args.form c.args.layout.now list) (sym c.in-Some.ensures) asked)
