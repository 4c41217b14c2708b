use Rattle.std.proofs.Common.{rules, tests, ◌==◌, ℕ}
use Rattle.std.proofs.lemmas.Iterator.{YieldsList-from_slice}
use Rattle.std.proofs.lemmas.Iterator.Search.{any_from_yields_List}
use Rattle.fixed.proofs.commands.column_words.has_byte.Goals as goal

pub returns : goal.returns
returns c =
    any_from_yields_List (λ (b : ℕ). b == c.args.byte) _ _ _ c.any.ensures.ran
    (YieldsList-from_slice c.args.bytes.now cc) (λ x b q k. search (rules, tests))
