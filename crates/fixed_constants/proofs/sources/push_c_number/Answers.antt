use Rattle.std.proofs.Common.{rules, ◌≡◌, true, false, FitsSigned}
use Rattle.std.specs.Int.{is_negative, w128}
use Rattle.std.proofs.lemmas.Int.{to_z-of_z}
use Rattle.fixed_constants.proofs.FormLemmas.{number_minus, number_plain}
use Rattle.fixed_constants.proofs.sources.push_c_number.Goals as goal

pub returns-then-bits-lt0 : goal.returns-then-bits-lt0
returns-then-bits-lt0 c =
    let fits : FitsSigned w128 c.args.bits = search rules in
    let negative : is_negative c.args.bits ≡ true = search rules in
    let word = rw (to_z-of_z w128 c.args.bits fits) at c.word_of.ensures in
    rw (number_minus c.args.format c.args.bits negative, ← word) c.push_c_negative.ensures

pub returns-else-bits-lt0 : goal.returns-else-bits-lt0
returns-else-bits-lt0 c =
    let fits : FitsSigned w128 c.args.bits = search rules in
    let positive : is_negative c.args.bits ≡ false = search rules in
    let word = rw (to_z-of_z w128 c.args.bits fits) at c.word_of-else-bits-lt0.ensures in
    rw (number_plain c.args.format c.args.bits positive, ← word) c.push_c_constant.ensures
