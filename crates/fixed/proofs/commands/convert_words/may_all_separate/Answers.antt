use Rattle.std.proofs.Common.{rules, tests}
use Rattle.std.proofs.lemmas.Iterator.{YieldsList-from_slice}
use Rattle.std.proofs.lemmas.Iterator.Search.{all_from_yields_List}
use Rattle.fixed.specs.Words.{may_separate}
use Rattle.fixed.proofs.commands.convert_words.may_all_separate.Goals as goal

pub returns : goal.returns
returns c =
    all_from_yields_List (may_separate) _ _ _ c.all.ensures.ran
    (YieldsList-from_slice c.args.bytes.now cc) (λ x b q k. search (rules, tests))
