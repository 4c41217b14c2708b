use Rattle.fixed_show.proofs.PartLemmas.{room_for_bytes}
use Rattle.fixed_show.proofs.parts.ordered_word.Goals as goal

pub with_reversed-requires : goal.with_reversed-requires
with_reversed-requires c = record { room = room_for_bytes c.in-Some.count c.if-count-le8.true }
