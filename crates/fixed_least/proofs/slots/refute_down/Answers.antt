use Rattle.std.proofs.Common.{◌∙◌, ◌<◌, ◌-◌, sym, arith, length, inl, inr, ⊎_elim}
use Rattle.std.proofs.lemmas.Bool.{false≢true}
use Rattle.std.proofs.lemmas.Grind.{common_steps}
use Rattle.fixed_least.specs.Inner.Slots.{slot, kind_format}
use Rattle.fixed_least.specs.Inner.Valued.{HasValue}
use Rattle.fixed_least.proofs.SlotLemmas.{down_others, down_refused, kind_width_most}
use Rattle.fixed_least.proofs.slots.refute_down.Goals as goal

pub loop-end-preserved : goal.loop-end-preserved
loop-end-preserved c =
    let inv = c.loop-end.invariant in
    let j = c.args.kind in
    let k = c.loop-end.end - 1 in
    let some = c.loop-end-test.true in
    let fits : slot j k < length c.loop-end.slots = omega (arith, inv.size, inv.high, c.requires.kind, c.requires.most, kind_width_most j, some) in
    let none : HasValue (kind_format j k) c.args.value → ⊥ = λ h. false≢true (sym c.if-has_value.false ∙ c.has_value.ensures.1 (rw c.format_of.ensures h)) in
    record {
      size = grind (arith, common_steps, inv.size);
      low = omega (arith, some);
      high = omega (arith, inv.high);
      refused = down_refused j c.args.low c.args.high k c.args.value c.args.place c.args.slots.now c.loop-end.slots fits none (λ i l m. inv.refused i (omega (arith, l)) m);
      others = down_others j c.args.low c.args.high k c.args.value c.args.place c.args.slots.now c.loop-end.slots fits none (omega (arith, some, inv.high)) (λ i h. inv.others i (⊎_elim (λ x. inl (omega (arith, x, some))) (λ y. inr y) h));
    }
