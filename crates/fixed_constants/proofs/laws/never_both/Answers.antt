use Rattle.std.proofs.Common.{[]}
use Rattle.line_engine.specs.Lines.{lines}
use Rattle.fixed_constants.specs.Lemmas.ConstantsLemmas.{not_both}
use Rattle.fixed_constants.proofs.laws.never_both.Goals as goal

pub returns : goal.returns
returns c text constants p f x y = not_both [] (lines text) constants p f x y
