use Rattle.std.proofs.Common.{arith, rules, ap, ◌∙◌, ◌<◌, length, length-append}
use Rattle.std.proofs.Math.Nat.{one-le-pow}
use Rattle.fixed_write.proofs.BlockLemmas.{word_length, even_power, fits_block, block_places_none, block_places_some}
use Rattle.fixed_write.proofs.places.push_rounded_in.Goals as goal

pub power-requires : goal.power-requires
power-requires g c = fits_block _ _ _ c.requires.block c.if-places.true

pub rounded-near-requires-clause-scale : goal.rounded-near-requires-clause-scale
rounded-near-requires-clause-scale g c =
    let some : 0 < g.row.BASE = omega (arith, c.requires.block.low) in
    omega (arith, one-le-pow c.args.places g.row.BASE some, c.power.ensures)

pub rounded-near-requires-clause-even : goal.rounded-near-requires-clause-even
rounded-near-requires-clause-even g c = rw c.power.ensures (even_power g.row.BASE c.args.places c.requires.block.even)

pub push_whole_in-requires : goal.push_whole_in-requires
push_whole_in-requires g c =
    (search rules, (c.requires.block.low, (c.requires.block.high, omega (arith, word_length g.row.BASE c.args.upper c.rounded-near.result.whole c.requires.block.low c.rounded-near.result.word, c.requires.room))))

pub push-requires : goal.push-requires
push-requires g c =
    omega (arith, word_length g.row.BASE c.args.upper c.rounded-near.result.whole c.requires.block.low c.rounded-near.result.word, c.requires.room, ap length c.push_whole_in.ensures ∙ length-append c.args.out.now _)

pub push_last_in-requires : goal.push_last_in-requires
push_last_in-requires g c =
    (search rules, (c.requires.block.low, (c.requires.block.high, ((λ e. omega (arith, c.requires.decimal e, c.if-places.true)), (rw c.power.ensures at c.rounded-near.ensures.part, omega (arith, word_length g.row.BASE c.args.upper c.rounded-near.result.whole c.requires.block.low c.rounded-near.result.word, c.requires.room, ap length c.push_whole_in.ensures ∙ length-append c.args.out.now _, ap length c.push.ensures ∙ length-append c.push_whole_in.new.out _, c.requires.places))))))

pub returns-then-places-gt0 : goal.returns-then-places-gt0
returns-then-places-gt0 g c =
    block_places_some _ _ _ _ _ _ _ _ _ _ _ _ (omega (arith, c.requires.block.low)) c.power.ensures c.rounded-near.ensures.part c.rounded-near.ensures.to c.push_whole_in.ensures c.if-places-gt0.true c.push.ensures c.push_last_in.ensures

pub returns-else-places-gt0 : goal.returns-else-places-gt0
returns-else-places-gt0 g c =
    block_places_none _ _ _ _ _ _ _ _ _ _ (omega (arith, c.requires.block.low)) c.power.ensures c.rounded-near.ensures.part c.rounded-near.ensures.to c.push_whole_in.ensures c.if-places-gt0.false
