use Rattle.std.proofs.Common.{◌∙◌, arith, rules}
use Rattle.fixed_show.proofs.PartLemmas.{no_byte_more, one_byte_more, room_less, room_some}
use Rattle.fixed_show.proofs.parts.+with_reversed.Goals as goal

pub overflow_mul-number : goal.overflow_mul-number
overflow_mul-number t c = omega (arith, room_some c.args.number c.args.rest c.args.count 18446744073709551616 c.if-count-eq0.false c.requires.room)

pub overflow_add-number : goal.overflow_add-number
overflow_add-number t c = omega (arith, room_some c.args.number c.args.rest c.args.count 18446744073709551616 c.if-count-eq0.false c.requires.room)

pub with_reversed-requires : goal.with_reversed-requires
with_reversed-requires t c = (search rules, room_less c.args.number c.args.rest c.args.count 18446744073709551616 c.if-count-eq0.false c.requires.room)

pub returns-then-count-eq0 : goal.returns-then-count-eq0
returns-then-count-eq0 t c = no_byte_more c.args.number c.args.rest c.args.count c.if-count-eq0.true

pub returns-else-count-eq0 : goal.returns-else-count-eq0
returns-else-count-eq0 t c = c.with_reversed.ensures ∙ one_byte_more c.args.number c.args.rest c.args.count c.if-count-eq0.false
