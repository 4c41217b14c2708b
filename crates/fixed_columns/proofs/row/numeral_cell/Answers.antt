use Rattle.std.proofs.Common.{rules, ◌≡◌, refl, sym, subst, FitsSigned}
use Rattle.std.specs.Int.{w128}
use Rattle.std.proofs.lemmas.Int.{to_z-of_z}
use Rattle.fixed_numeral.specs.declared.error.ParseErrorKind.{ParseErrorKind}
use Rattle.fixed_columns.specs.Cells.{CellParts}
use Rattle.fixed_columns.specs.Rows.{IsNumeralOf, IsRefusedNumeral}
use Rattle.fixed_columns.proofs.NumeralLemmas.{numeral_in, numeral_out}
use Rattle.fixed_columns.proofs.row.numeral_cell.Goals as goal

pub returns-in-Some-clause-cell : goal.returns-in-Some-clause-cell
returns-in-Some-clause-cell c =
    let fits : FitsSigned w128 c.in-Some.bits = search rules in
    let has = c.in-Ok.ensures.reading.numeral.0 refl in
    let cell : c.within.result ≡ record { format = c.args.format; bits = c.in-Some.bits } = rw (to_z-of_z w128 c.in-Some.bits fits) at c.within.ensures in
    let P : CellParts → Type 0 = λ r. (r.format ≡ c.args.format) × IsNumeralOf c.args.format c.args.numeral.now r.bits in
    subst P (sym cell) (refl, numeral_in c.args.format c.args.numeral.now c.in-Ok.found has.0 c.in-Some.bits c.in-Ok.ensures.format has.1 (c.in-Ok.ensures.reading.read has.0 has.1) c.in-Some.ensures.image c.in-Some.ensures.range)

pub returns-in-None-clause-refused : goal.returns-in-None-clause-refused
returns-in-None-clause-refused c =
    let has = c.in-Ok.ensures.reading.numeral.0 refl in
    let P : ParseErrorKind → Type 0 = λ k. IsRefusedNumeral c.args.format c.args.numeral.now k in
    subst P (sym c.new.ensures) (numeral_out c.args.format c.args.numeral.now c.in-Ok.found has.0 c.in-Ok.ensures.format has.1 (c.in-Ok.ensures.reading.read has.0 has.1) (λ v h. ((c.in-None.ensures.none v h).0 (search rules)).1))
