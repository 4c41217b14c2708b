use Rattle.std.proofs.Common.{◌≡◌, ℕ, arith, subst}
use Rattle.std.proofs.lemmas.Grind.{common_steps}
use Rattle.fixed_least.proofs.SlotLemmas.{NotedBelow, all_noted, still_living, still_noted}
use Rattle.fixed_least.proofs.slots.refute.Goals as goal

pub loop-kind-preserved : goal.loop-kind-preserved
loop-kind-preserved c =
    let inv = c.loop-kind.invariant in
    let j = c.loop-kind.kind in
    let r = c.refute_kind-low in
    record {
      low_size = grind (arith, common_steps, inv.low_size);
      high_size = grind (arith, common_steps, inv.high_size);
      living = still_living j 0 0 r.result.0 r.result.1 c.args.value c.args.place c.args.slots.now c.loop-kind.slots r.new.slots c.loop-kind.lows c.loop-kind.highs c.loop-kind-test.true inv.low_size inv.high_size inv.living r.ensures.order r.ensures.most r.ensures.living r.ensures.noted r.ensures.others;
      noted = still_noted j 0 0 r.result.0 r.result.1 c.args.value c.args.place c.args.slots.now c.loop-kind.slots r.new.slots c.loop-kind.lows c.loop-kind.highs c.loop-kind-test.true inv.low_size inv.high_size inv.living r.ensures.order r.ensures.most r.ensures.living r.ensures.noted r.ensures.others inv.noted;
    }

pub returns-clause-noted : goal.returns-clause-noted
returns-clause-noted c =
    let done : c.loop-kind.kind ≡ 8 = omega (arith, c.loop-kind-test.false, c.loop-kind.auto.kind-end) in
    let N : ℕ → Type 0 = λ n. NotedBelow n c.args.value c.args.place c.args.slots.now c.loop-kind.slots in
    all_noted c.args.value c.args.place c.args.slots.now c.loop-kind.slots (subst N done c.loop-kind.invariant.noted)
