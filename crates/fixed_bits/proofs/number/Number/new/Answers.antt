use Rattle.std.proofs.Common.{refl, rules}
use Rattle.fixed_bits.proofs.NumberLemmas.{of_magnitude}
use Rattle.fixed_bits.proofs.number.Number.new.Goals as goal

pub returns-clause-value : goal.returns-clause-value
returns-clause-value c = of_magnitude _ c.args.magnitude refl (search rules)
