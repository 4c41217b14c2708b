use Rattle.std.proofs.Common.{arith}
use Rattle.std.proofs.lemmas.Bool.{eq-eqb}
use Rattle.column_engine.specs.declared.place.Place.TheVariants.{Inside}
use Rattle.column_engine.proofs.PlaceLemmas.{plain_field}
use Rattle.column_engine.proofs.RowLemmas.{fields_end, fields_last}
use Rattle.column_engine.proofs.place.field_end.Goals as goal

pub returns-in-Inside-clause-last : goal.returns-in-Inside-clause-last
returns-in-Inside-clause-last c =
    let d = c.args.delimiter in
    let body = c.args.body.now in
    let k = c.before_byte.result in
    λ e. fields_last d Inside body k (omega (arith, e)) (plain_field d body k c.before_byte.ensures.within c.before_byte.ensures.none (c.in-Inside.ensures d))

pub returns-in-Inside-clause-more : goal.returns-in-Inside-clause-more
returns-in-Inside-clause-more c =
    let d = c.args.delimiter in
    let body = c.args.body.now in
    let k = c.before_byte.result in
    λ low. fields_end d Inside body k low (eq-eqb _ d (c.before_byte.ensures.found low))
    (plain_field d body k c.before_byte.ensures.within c.before_byte.ensures.none (c.in-Inside.ensures d))
