use Rattle.fixed_fit.specs.Fitting.{choice}
use Rattle.fixed_fit.proofs.ServingLemmas.{IsCovered}
use Rattle.fixed_fit.proofs.serving.Serving.new.Given as goal

abbrev pub invariant-loop-width : goal.invariant-loop-width
invariant-loop-width l = IsCovered (choice l.signed l.question.fractions) l.widths l.one l.width l.lengths.items
