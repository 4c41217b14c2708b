use Rattle.fixed_command.proofs.OverflowLemmas.{read_found}
use Rattle.fixed_command.proofs.explain.read_wide.Goals as goal

pub returns-in-Ok-clause-number : goal.returns-in-Ok-clause-number
returns-in-Ok-clause-number g c = λ parts v has read.
    c.wide_number.ensures.number v (read_found c.args.settings.now.mode c.args.settings.now.radix parts c.in-Ok.found c.args.settings.now.source c.number.result v c.in-Ok.ensures.format c.number.ensures (c.in-Ok.ensures.reading.read parts has) read)
