use Rattle.fixed_respell.specs.Lemmas.FaultLemmas.{first_radix, first_source, first_target, first_policy}
use Rattle.fixed_respell.specs.Words.{IsFormatWord, IsPolicyWord}
use Rattle.fixed_respell.proofs.EndingLemmas.{ending}
use Rattle.fixed_respell.proofs.answering.read_task.Goals as goal

pub returns-in_default-radix_word-clause-task : goal.returns-in_default-radix_word-clause-task
returns-in_default-radix_word-clause-task c =
    let f = c.in-Some.fields in
    first_radix IsFormatWord IsPolicyWord c.args.line.now f.radix.now f.source.now f.target.now f.policy.now f.numeral.now c.if-line-gt-MAX_LINE.false c.in-Some.ensures c.in_default-radix_word.ensures

pub returns-in_default-format_word-clause-task : goal.returns-in_default-format_word-clause-task
returns-in_default-format_word-clause-task c =
    let f = c.in-Some.fields in
    first_source IsFormatWord IsPolicyWord c.args.line.now f.radix.now f.source.now f.target.now f.policy.now f.numeral.now c.in-Some-radix_word.radix c.if-line-gt-MAX_LINE.false c.in-Some.ensures c.in-Some-radix_word.ensures c.in_default-format_word.ensures

pub returns-in_default-format_word-2-clause-task : goal.returns-in_default-format_word-2-clause-task
returns-in_default-format_word-2-clause-task c =
    let f = c.in-Some.fields in
    first_target IsFormatWord IsPolicyWord c.args.line.now f.radix.now f.source.now f.target.now f.policy.now f.numeral.now c.in-Some-radix_word.radix c.in-Some-format_word.source c.if-line-gt-MAX_LINE.false c.in-Some.ensures c.in-Some-radix_word.ensures c.in-Some-format_word.ensures c.in_default-format_word-2.ensures

pub returns-in_default-policy_word-clause-task : goal.returns-in_default-policy_word-clause-task
returns-in_default-policy_word-clause-task c =
    let f = c.in-Some.fields in
    first_policy IsFormatWord IsPolicyWord c.args.line.now f.radix.now f.source.now f.target.now f.policy.now f.numeral.now c.in-Some-radix_word.radix c.in-Some-format_word.source c.in-Some-format_word-2.target c.if-line-gt-MAX_LINE.false c.in-Some.ensures c.in-Some-radix_word.ensures c.in-Some-format_word.ensures c.in-Some-format_word-2.ensures c.in_default-policy_word.ensures

pub returns-clause-ending : goal.returns-clause-ending
returns-clause-ending c = ending c.args.line.now c.in-Some.fields.numeral.now _ c.in-Some.ensures
