use Rattle.fixed_columns.proofs.OrderLawLemmas.{of_formats}
use Rattle.fixed_columns.proofs.laws.ties_are_of_formats.Goals as goal

pub returns : goal.returns
returns c = of_formats
