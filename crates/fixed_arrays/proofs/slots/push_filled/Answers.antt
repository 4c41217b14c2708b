use Rattle.std.proofs.Common.{◌++◌, false, arith}
use Rattle.fixed_arrays.specs.Slots.{fill_from, parts_of}
use Rattle.fixed_arrays.proofs.SlotLemmas.{filled_all}
use Rattle.fixed_arrays.proofs.slots.push_filled.Goals as goal

pub returns : goal.returns
returns g c =
    filled_all (parts_of c.args.filling.now) c.args.template.now (c.args.text.now.items ++ fill_from false (parts_of c.args.filling.now) c.args.template.now) c.loop-byte.text.items c.loop-byte.is_slot c.loop-byte.byte-index (omega arith) c.loop-byte.invariant
