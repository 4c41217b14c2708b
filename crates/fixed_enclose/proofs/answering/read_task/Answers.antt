use Rattle.fixed_enclose.specs.Lemmas.FaultLemmas.{first_radix, first_format}
use Rattle.fixed_enclose.proofs.answering.read_task.Goals as goal

pub returns-in_default-radix_word-clause-task : goal.returns-in_default-radix_word-clause-task
returns-in_default-radix_word-clause-task c =
    let f = c.in-Some.fields in
    first_radix c.args.line.now f.radix.now f.format.now f.numeral.now c.if-line-gt-MAX_LINE.false c.in-Some.ensures c.in_default-radix_word.ensures

pub returns-in_default-format_word-clause-task : goal.returns-in_default-format_word-clause-task
returns-in_default-format_word-clause-task c =
    let f = c.in-Some.fields in
    first_format c.args.line.now f.radix.now f.format.now f.numeral.now c.in-Some-radix_word.radix c.if-line-gt-MAX_LINE.false c.in-Some.ensures c.in-Some-radix_word.ensures c.in_default-format_word.ensures
