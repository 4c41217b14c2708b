use Rattle.std.proofs.Common.{refl}
use Rattle.std.proofs.lemmas.Str.Ascii.{trim_ascii_is}
use Rattle.fixed_command.specs.Layout.{after_blanks}
use Rattle.fixed_command.proofs.layout.trimmed.Goals as goal

pub returns-clause-value : goal.returns-clause-value
returns-clause-value c = trim_ascii_is c.args.bytes.now c.trim_ascii.result.now (after_blanks c.args.bytes.now) refl c.trim_ascii.ensures.value
