use Rattle.std.proofs.Common.{w64}
use Rattle.std.proofs.lemmas.Int.{to_z-of_z}
use Rattle.fixed_names.proofs.ToolNameLemmas.{name_found, no_name, small_fits}
use Rattle.fixed_names.proofs.tool_names.named_in.Goals as goal

pub returns-in-Some : goal.returns-in-Some
returns-in-Some c =
    let found = c.in-Some.ensures in
    name_found c.args.form c.args.signed c.args.word.now c.in-Some.first c.in-Some.second c.format_of.result found.0 found.1 found.2 (rw (to_z-of_z w64 c.in-Some.first (small_fits c.in-Some.first found.0), to_z-of_z w64 c.in-Some.second (small_fits c.in-Some.second found.1)) at c.format_of.ensures)

pub returns-in-None : goal.returns-in-None
returns-in-None c = no_name c.args.form c.args.signed c.args.word.now c.in-None.ensures
