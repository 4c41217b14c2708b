use Rattle.std.proofs.lemmas.Str.Ascii.{trim_ascii_start_is}
use Rattle.fixed_command.proofs.layout.after_blanks.Goals as goal

pub returns-clause-value : goal.returns-clause-value
returns-clause-value c = trim_ascii_start_is c.args.bytes.now c.trim_ascii_start.result.now c.trim_ascii_start.ensures.value
