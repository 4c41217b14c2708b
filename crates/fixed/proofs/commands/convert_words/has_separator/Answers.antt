use Rattle.std.proofs.Common.{rules, tests}
use Rattle.std.proofs.lemmas.Iterator.{YieldsList-from_slice}
use Rattle.std.proofs.lemmas.Iterator.Search.{any_from_yields_List}
use Rattle.fixed_words.specs.Words.{is_separator}
use Rattle.fixed.proofs.commands.convert_words.has_separator.Goals as goal

pub returns : goal.returns
returns c =
    any_from_yields_List (is_separator c.args.separators.now) _ _ _ c.any.ensures.ran
    (YieldsList-from_slice c.args.word.now cc) (λ x b q k. search (rules, tests))
