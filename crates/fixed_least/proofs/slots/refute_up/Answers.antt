use Rattle.std.proofs.Common.{◌∙◌, ◌<◌, sym, arith, length}
use Rattle.std.proofs.lemmas.Bool.{false≢true}
use Rattle.std.proofs.lemmas.Grind.{common_steps}
use Rattle.fixed_least.specs.Inner.Slots.{slot, kind_format}
use Rattle.fixed_least.specs.Inner.Valued.{HasValue}
use Rattle.fixed_least.proofs.SlotLemmas.{kind_width_most, up_others, up_refused}
use Rattle.fixed_least.proofs.slots.refute_up.Goals as goal

pub loop-frac-preserved : goal.loop-frac-preserved
loop-frac-preserved c =
    let inv = c.loop-frac.invariant in
    let j = c.args.kind in
    let k = c.loop-frac.frac in
    let fits : slot j k < length c.loop-frac.slots = omega (arith, inv.size, c.requires.kind, c.requires.most, kind_width_most j, c.loop-frac-test.true) in
    let none : HasValue (kind_format j k) c.args.value → ⊥ = λ h. false≢true (sym c.if-has_value.false ∙ c.has_value.ensures.1 (rw c.format_of.ensures h)) in
    record {
      size = grind (arith, common_steps, inv.size);
      refused = up_refused j c.args.low c.args.high k c.args.value c.args.place c.args.slots.now c.loop-frac.slots fits none inv.refused;
      others = up_others j c.args.low c.args.high k c.args.value c.args.place c.args.slots.now c.loop-frac.slots fits none c.loop-frac.auto.frac inv.others;
    }

pub returns-clause-refused : goal.returns-clause-refused
returns-clause-refused c k low high = c.loop-frac.invariant.refused k low (omega (arith, high, c.loop-frac-test.false))
