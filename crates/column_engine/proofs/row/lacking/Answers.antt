use Rattle.std.proofs.Common.{arith}
use Rattle.column_engine.specs.declared.place.Place.TheVariants.{Start}
use Rattle.column_engine.proofs.HeaderLemmas.{fields_some}
use Rattle.column_engine.proofs.row.lacking.Goals as goal

pub returns-then-needed-count : goal.returns-then-needed-count
returns-then-needed-count c = omega (arith, c.if-needed-count.true, c.fields.invariant.count_is, fields_some c.args.delimiter Start c.fields.rest.now)
