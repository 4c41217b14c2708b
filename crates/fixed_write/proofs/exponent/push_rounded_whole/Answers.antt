use Rattle.std.proofs.Common.{arith, rules, ap, ◌∙◌, ◌≡◌, ◌++◌, ◌^◌, [], false, sym, length}
use Rattle.fixed_write.specs.Texts.{whole_digits}
use Rattle.fixed_write.proofs.IntegerLemmas.{word_digits}
use Rattle.fixed_write.proofs.BlockLemmas.{even_power_some}
use Rattle.std.proofs.Common.{refl}
use Rattle.fixed_write.proofs.LeadingLemmas.{near_divided, whole_kept, whole_raised, ten_more, whole_nonempty}
use Rattle.fixed_write.proofs.exponent.push_rounded_whole.Goals as goal

pub rounded_quotient-number-requires-clause-even : goal.rounded_quotient-number-requires-clause-even
rounded_quotient-number-requires-clause-even c = rw c.power_of_ten.ensures (even_power_some 10 _ (omega arith) refl)

pub rounded_quotient-number-requires-clause-some : goal.rounded_quotient-number-requires-clause-some
rounded_quotient-number-requires-clause-some c = rw c.power_of_ten.ensures (ten_more _ (omega arith))

pub push_whole-requires : goal.push_whole-requires
push_whole-requires c = (search rules, omega (arith, ap length c.requires.empty, word_digits _ c.power_of_ten-then-number-power_of_ten.type_inv))

pub push_whole-requires-else-number-power_of_ten : goal.push_whole-requires-else-number-power_of_ten
push_whole-requires-else-number-power_of_ten c = (search rules, omega (arith, ap length c.requires.empty, word_digits _ c.rounded_quotient-number.type_inv))

pub returns-then-number-power_of_ten-clause-figures : goal.returns-then-number-power_of_ten-clause-figures
returns-then-number-power_of_ten-clause-figures c =
    let digits : c.push_whole.new.out ≡ [] ++ whole_digits 10 false (10 ^ c.args.precision) = rw (c.requires.empty, c.power_of_ten-then-number-power_of_ten.ensures) at c.push_whole.ensures in
    whole_raised _ _ _ _ _ (near_divided _ _ _ _ _ c.requires.fewer c.power_of_ten.ensures c.rounded_quotient-number.ensures.near) (c.if-number-power_of_ten.true ∙ c.power_of_ten-2.ensures) digits

pub returns-else-number-power_of_ten-clause-figures : goal.returns-else-number-power_of_ten-clause-figures
returns-else-number-power_of_ten-clause-figures c =
    let digits : c.push_whole-else-number-power_of_ten.new.out ≡ [] ++ whole_digits 10 false c.rounded_quotient-number.result = rw c.requires.empty at c.push_whole-else-number-power_of_ten.ensures in
    whole_kept _ _ _ _ _ (near_divided _ _ _ _ _ c.requires.fewer c.power_of_ten.ensures c.rounded_quotient-number.ensures.near) (λ e. c.if-number-power_of_ten.false (e ∙ sym c.power_of_ten-2.ensures)) digits

pub returns-then-number-power_of_ten-clause-some : goal.returns-then-number-power_of_ten-clause-some
returns-then-number-power_of_ten-clause-some c =
    let digits : c.push_whole.new.out ≡ [] ++ whole_digits 10 false c.power_of_ten-then-number-power_of_ten.result = rw c.requires.empty at c.push_whole.ensures in
    rw digits (whole_nonempty _)

pub returns-else-number-power_of_ten-clause-some : goal.returns-else-number-power_of_ten-clause-some
returns-else-number-power_of_ten-clause-some c =
    let digits : c.push_whole-else-number-power_of_ten.new.out ≡ [] ++ whole_digits 10 false c.rounded_quotient-number.result = rw c.requires.empty at c.push_whole-else-number-power_of_ten.ensures in
    rw digits (whole_nonempty _)
