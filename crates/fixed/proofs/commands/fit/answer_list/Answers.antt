use Rattle.std.proofs.Common.{inl, inr, refl, true≢false, subst, sym}
use Rattle.fixed_numeral.specs.Numeral.{IsNumeral}
use Rattle.fixed.proofs.FitLemmas.{fits}
use Rattle.fixed.proofs.commands.fit.answer_list.Goals as goal

pub returns-in-None : goal.returns-in-None
returns-in-None g c = rw c.in-None.is (
    fits g.S.Source.left g.S.Source.asked g.S.Source.failures g.K.Sink.written g.K.Sink.failures _ _ _ _ _ _ _ _ _ _ _ _ _ _ c.run_fit.ensures refl)

pub returns-in-Ok : goal.returns-in-Ok
returns-in-Ok g c = rw c.in-Some.is (inl (
  subst (IsNumeral c.args.task.now.question.radix) c.deref.ensures.value (c.in-Ok.ensures.reading.numeral.0 refl),
  fits g.S.Source.left g.S.Source.asked g.S.Source.failures g.K.Sink.written g.K.Sink.failures _ _ _ _ _ _ _ _ _ _ _ _ _ _ c.run_fit-in-Ok.ensures c.deref-in-Ok.ensures.value,
))

pub returns-in-Err : goal.returns-in-Err
returns-in-Err g c = rw c.in-Some.is (inr (
  (λ is. true≢false (sym (c.in-Err.ensures.reading.numeral.1 (subst (IsNumeral c.args.task.now.question.radix) (sym c.deref.ensures.value) is)))),
  record {
    status_is = refl;
    reads = record { left = refl; asked = refl; failures = refl };
    writes = record { written = refl; failures = refl };
  },
))
