use Rattle.std.proofs.Common.{length, ap, ◌∙◌, sym, subst, arith}
use Rattle.fixed_respell.specs.Answer.{IsAnswer}
use Rattle.fixed_respell.specs.SelfMode.{IsTally, IsWithin}
use Rattle.fixed_respell.proofs.SelfLemmas.{tally_none, tally_next, within_none}
use Rattle.fixed_respell.proofs.self_mode.count_answers.Goals as goal

pub loop-line-init : goal.loop-line-init
loop-line-init g c = record {
  tally = subst (IsTally 0) (sym c.new-counts.ensures) tally_none;
  within = subst (IsWithin 0) (sym c.new-counts.ensures) within_none;
  cost = omega arith;
}

pub loop-line-preserved : goal.loop-line-preserved
loop-line-preserved g c =
    let inv = c.loop-line.invariant in
    record {
      tally = tally_next c.loop-line.line c.loop-line.counts c.add.new.self c.answer.result inv.tally
          (subst (λ l. IsAnswer l c.answer.result) (c.as_slice.ensures.value ∙ c.self_line.ensures.line) c.answer.ensures.answer) c.add.ensures.tally;
      within = c.add.ensures.within c.loop-line.line inv.within;
      cost = omega (arith, inv.cost, c.answer.ensures.cost, ap length c.as_slice.ensures.value, c.self_line.ensures.short);
    }
