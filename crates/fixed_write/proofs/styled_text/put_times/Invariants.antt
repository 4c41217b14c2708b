use Rattle.std.specs.List.{repeat}
use Rattle.fixed_write.specs.Inner.Styling.{IsPut}
use Rattle.fixed_write.proofs.styled_text.put_times.Given as goal

abbrev pub invariant-copies : goal.invariant-copies
invariant-copies l = IsPut (repeat l.done l.part) l.fn.out l.out l.at l.end
