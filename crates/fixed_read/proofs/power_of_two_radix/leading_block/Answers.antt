use Rattle.std.proofs.Common.{◌≡◌, ◌+◌, ◌-◌, ◌*◌, ◌/◌, ◌^◌, ◌∙◌, ap, sym, arith}
use Rattle.fixed_numeral.proofs.Public.{pow-mul}
use Rattle.fixed_read.proofs.PartLemmas.{base_least, base_most, block_room, word_room}
use Rattle.fixed_read.proofs.power_of_two_radix.leading_block.Goals as goal

-- ---- digits in a u64
pub leading_number-requires-clause-least : goal.leading_number-requires-clause-least
leading_number-requires-clause-least g c =
    rw c.base_of_bits.ensures (base_least c.args.bits c.requires.some)

pub leading_number-requires-clause-most : goal.leading_number-requires-clause-most
leading_number-requires-clause-most g c =
    rw c.base_of_bits.ensures (base_most c.args.bits c.requires.few)

pub leading_number-requires-clause-room : goal.leading_number-requires-clause-room
leading_number-requires-clause-room g c =
    let same : c.base_of_bits.result ≡ 2 ^ c.args.bits = c.base_of_bits.ensures in
    rw same (block_room c.args.bits c.args.fraction_bits c.args.count c.requires.some c.requires.few c.if-fraction_bits-le60.true c.requires.count)

-- ---- digits in a u128
pub leading_number_u128-requires-clause-prefix : goal.leading_number_u128-requires-clause-prefix
leading_number_u128-requires-clause-prefix g c =
    let same : c.base_of_bits-2.result ≡ 2 ^ c.args.bits = c.base_of_bits-2.ensures in
    rw same (word_room c.args.bits c.args.fraction_bits (c.args.count - (c.args.count + 1) / 2) c.requires.some c.requires.few c.requires.fraction_bits (omega (arith, c.requires.count)))

pub leading_number_u128-requires-clause-back : goal.leading_number_u128-requires-clause-back
leading_number_u128-requires-clause-back g c =
    let same : c.base_of_bits-2.result ≡ 2 ^ c.args.bits = c.base_of_bits-2.ensures in
    rw same (word_room c.args.bits c.args.fraction_bits ((c.args.count + 1) / 2) c.requires.some c.requires.few c.requires.fraction_bits (omega (arith, c.requires.count)))

pub leading_number_u128-requires-clause-power : goal.leading_number_u128-requires-clause-power
leading_number_u128-requires-clause-power g c =
    let same : c.base_of_bits-2.result ≡ 2 ^ c.args.bits = c.base_of_bits-2.ensures in
    let turned : (c.args.count + 1) / 2 * c.args.bits ≡ c.args.bits * ((c.args.count + 1) / 2) = omega arith in
    c.power_of_two.ensures ∙ ap (λ i. 2 ^ i) turned ∙ sym (pow-mul 2 c.args.bits ((c.args.count + 1) / 2)) ∙ ap (λ x. x ^ ((c.args.count + 1) / 2)) (sym same)
