use Rattle.std.proofs.Common.{◌≡◌, ◌++◌, ◌∷◌, List, ℕ, [], refl}
use Rattle.line_rejects.proofs.ExistLemmas.{line_exists}
use Rattle.line_rejects.proofs.PutLemmas.{puts_both, puts_closed}
use Rattle.line_rejects.proofs.rejects.Rejects.put.Goals as goal

pub returns-then-not-self-clause-puts : goal.returns-then-not-self-clause-puts
returns-then-not-self-clause-puts g c = let line = line_exists _ c.args.number c.args.place c.args.text.now c.args.cause.now in (line.0, line.1, puts_closed _ line.0 c.if-not-self.true)

pub returns-clause-puts : goal.returns-clause-puts
returns-clause-puts g c =
    let name = c.append_name.ensures.puts in
    let text = c.append_field.ensures.puts in
    let cause = c.append_field-2.ensures.puts in (
      _,
      record { first = name.0; shown = text.0; told = cause.0; is_name = name.1; is_text = text.1; is_cause = cause.1; line_is = refl },
      puts_both _ _ _ _ _ (puts_both _ _ _ _ _ (puts_both _ _ _ _ _ (puts_both _ _ _ _ _ name.2 c.append_number.ensures.puts) c.append_place.ensures.puts) text.2) cause.2,
    )
