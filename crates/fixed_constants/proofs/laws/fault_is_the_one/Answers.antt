use Rattle.std.proofs.Common.{[]}
use Rattle.line_engine.specs.Lines.{lines}
use Rattle.fixed_constants.specs.Lemmas.ConstantsLemmas.{fail_one}
use Rattle.fixed_constants.proofs.laws.fault_is_the_one.Goals as goal

pub returns : goal.returns
returns c text p q f g x y = let same = fail_one [] (lines text) p q f g x y in (same.line, same.fault)
