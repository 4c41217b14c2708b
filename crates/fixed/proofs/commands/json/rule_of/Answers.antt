use Rattle.command_line.specs.Words.{word_at}
use Rattle.fixed.specs.Json.{IsAmountRuleAsked, IsBinaryRuleAsked}
use Rattle.fixed.proofs.SourceLemmas.{amount_refused, binary_refused}
use Rattle.fixed.proofs.commands.json.rule_of.Goals as goal

pub returns-in-Err-clause-refused : goal.returns-in-Err-clause-refused
returns-in-Err-clause-refused c rule quotes files asked =
    let given = c.args.given.now in
    amount_refused (word_at given 1) (λ format. IsAmountRuleAsked given format rule quotes files) (IsBinaryRuleAsked given rule quotes files) c.in-Some.format c.in-Some.ensures
    (c.in-Err.ensures.refused rule quotes files) asked

pub returns-in-Err-binary_rule_of-clause-refused : goal.returns-in-Err-binary_rule_of-clause-refused
returns-in-Err-binary_rule_of-clause-refused c rule quotes files asked =
    let given = c.args.given.now in
    binary_refused (word_at given 1) (λ format. IsAmountRuleAsked given format rule quotes files) (IsBinaryRuleAsked given rule quotes files) c.in-None.ensures
    (c.in-Err-binary_rule_of.ensures.refused rule quotes files) asked
