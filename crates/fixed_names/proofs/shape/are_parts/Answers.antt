use Rattle.std.proofs.Common.{rules, tests}
use Rattle.std.proofs.lemmas.Iterator.{YieldsList-from_slice}
use Rattle.std.proofs.lemmas.Iterator.Search.{all_from_yields_List}
use Rattle.fixed_names.specs.Shapes.{is_part}
use Rattle.fixed_names.proofs.shape.are_parts.Goals as goal

pub returns : goal.returns
returns c =
    all_from_yields_List is_part _ _ _ c.all.ensures.ran
    (YieldsList-from_slice c.args.bytes.now cc) (λ x b q k. search (rules, tests))
