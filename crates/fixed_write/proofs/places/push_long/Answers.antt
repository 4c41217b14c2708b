use Rattle.std.proofs.Common.{arith, rules, ap, ◌∙◌, ◌-◌, ◌*◌, ◌/◌, ◌^◌, ◌+◌, ◌≡◌, ◌<◌, length, length-append}
use Rattle.fixed_write.proofs.DigitLemmas.{last_digits_length}
use Rattle.fixed_write.proofs.BlockLemmas.{word_length, even_power, long_places, block_below}
use Rattle.fixed_write.proofs.places.push_long.Goals as goal

pub push_whole_in-requires : goal.push_whole_in-requires
push_whole_in-requires g c =
    (search rules, (c.requires.block.low, (c.requires.block.high, omega (arith, word_length g.row.BASE c.args.upper c.args.value.whole c.requires.block.low c.args.value.word, c.requires.room))))

pub push-requires : goal.push-requires
push-requires g c =
    omega (arith, word_length g.row.BASE c.args.upper c.args.value.whole c.requires.block.low c.args.value.word, c.requires.room, ap length c.push_whole_in.ensures ∙ length-append c.args.out.now _)

pub push_rest_digits-rest-requires : goal.push_rest_digits-rest-requires
push_rest_digits-rest-requires g c =
    (search rules, (c.requires.block.low, (c.requires.block.high, omega (arith, word_length g.row.BASE c.args.upper c.args.value.whole c.requires.block.low c.args.value.word, c.requires.room, ap length c.push_whole_in.ensures ∙ length-append c.args.out.now _, ap length c.push.ensures ∙ length-append c.push_whole_in.new.out _, c.requires.places))))

pub rounded_part-requires-clause-even : goal.rounded_part-requires-clause-even
rounded_part-requires-clause-even g c = rw c.power.ensures (even_power g.row.BASE g.row.BLOCK c.requires.block.even)

pub push_last_in-requires : goal.push_last_in-requires
push_last_in-requires g c =
    let some : 0 < c.args.places - g.row.BLOCK = omega (arith, c.requires.long) in
    (search rules, (c.requires.block.low, (c.requires.block.high, (c.requires.decimal, (block_below _ _ _ (c.args.places - g.row.BLOCK) c.args.value.rest _ _ _ c.requires.block some c.power.ensures c.push_rest_digits-rest.ensures.left c.rounded_part.ensures.to c.rounded_part.ensures.most, omega (arith, word_length g.row.BASE c.args.upper c.args.value.whole c.requires.block.low c.args.value.word, c.requires.room, c.requires.long, ap length c.push_whole_in.ensures ∙ length-append c.args.out.now _, ap length c.push.ensures ∙ length-append c.push_whole_in.new.out _, ap length c.push_rest_digits-rest.ensures.text ∙ length-append c.push.new.self _, last_digits_length g.row.BASE c.args.upper (c.args.places - g.row.BLOCK) (c.args.value.rest * g.row.BASE ^ (c.args.places - g.row.BLOCK) / 2 ^ 64), c.requires.places))))))

pub returns : goal.returns
returns g c =
    let some : 0 < c.args.places - g.row.BLOCK = omega (arith, c.requires.long) in
    let total : c.args.places - g.row.BLOCK + g.row.BLOCK ≡ c.args.places = omega (arith, c.requires.long) in
    long_places _ _ _ _ _ _ (c.args.places - g.row.BLOCK) _ _ _ _ _ _ _ _ _ c.requires.block c.args.value.below some total c.power.ensures c.push_whole_in.ensures c.push.ensures c.push_rest_digits-rest.ensures.text c.push_rest_digits-rest.ensures.left c.rounded_part.ensures.to c.rounded_part.ensures.most c.push_last_in.ensures
