use Rattle.fixed_least.proofs.SlotLemmas.{IsRefutedKind, kind_noted}
use Rattle.fixed_least.proofs.slots.refute_kind.Goals as goal

pub returns-clause-noted : goal.returns-clause-noted
returns-clause-noted c k w =
    let up = c.refute_up-first in
    let down = c.refute_down-end in
    let h : IsRefutedKind c.args.kind c.args.low up.result down.result c.args.high c.args.value c.args.place c.args.slots.now up.new.slots down.new.slots = record {
      low_first = up.ensures.low;
      first_end = down.ensures.low;
      end_high = down.ensures.high;
      most = c.requires.most;
      up = up.ensures.refused;
      up_others = up.ensures.others;
      up_held = up.ensures.held;
      down = down.ensures.refused;
      down_others = down.ensures.others;
      down_held = down.ensures.held;
    } in
    kind_noted c.args.kind c.args.low up.result down.result c.args.high c.args.value c.args.place c.args.slots.now up.new.slots down.new.slots c.requires.place c.requires.living h k w
