use Rattle.std.proofs.Common.{[]}
use Rattle.line_engine.specs.Lines.{lines}
use Rattle.fixed_constants.specs.Lemmas.ConstantsLemmas.{declare_one}
use Rattle.fixed_constants.proofs.laws.constants_are_the_ones.Goals as goal

pub returns : goal.returns
returns c text a b x y = declare_one [] (lines text) a b x y
