use Rattle.std.proofs.Common.{◌==◌, ℕ, rules, tests}
use Rattle.std.specs.List.{list_any}
use Rattle.std.proofs.lemmas.Iterator.{YieldsList-from_slice}
use Rattle.std.proofs.lemmas.Iterator.Search.{any_from_yields_List}
use Rattle.fixed_command.proofs.field.has_part.Goals as goal

pub returns : goal.returns
returns c =
    any_from_yields_List (λ (byte : ℕ). list_any (λ b. b == byte) c.args.separator.now) _ _ _ c.any.ensures.ran
    (YieldsList-from_slice c.args.bytes.now cc) (λ x b q k. search (rules, tests))
