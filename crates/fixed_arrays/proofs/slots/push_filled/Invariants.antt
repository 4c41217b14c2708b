use Rattle.std.proofs.Common.{◌≡◌, ◌++◌, drop, false}
use Rattle.fixed_arrays.specs.Slots.{fill_from, parts_of}
use Rattle.fixed_arrays.proofs.slots.push_filled.Given as goal

abbrev pub invariant-loop-byte : goal.invariant-loop-byte
invariant-loop-byte g l = l.initial.text.items ++ fill_from false (parts_of l.filling) l.template ≡ l.text.items ++ fill_from l.is_slot (parts_of l.filling) (drop l.byte-index l.template)
