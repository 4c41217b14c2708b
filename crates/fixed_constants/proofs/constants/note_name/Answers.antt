use Rattle.std.proofs.lemmas.Map.Text.{hash_map_updates_str}
use Rattle.std.specs.Prelude.{Some}
use Rattle.fixed_constants.proofs.constants.note_name.Goals as goal

pub returns-in-Ok-clause-updates : goal.returns-in-Ok-clause-updates
returns-in-Ok-clause-updates c = hash_map_updates_str c.args.name.now c.args.known.now c.insert.new.self (Some c.args.line) c.in-Ok.ensures.updates
