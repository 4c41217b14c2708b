use Rattle.std.proofs.Common.{rules, refl, FitsSigned, subst, sym}
use Rattle.std.specs.Int.{w128}
use Rattle.std.proofs.lemmas.Int.{to_z-of_z}
use Rattle.fixed_constants.specs.Constants.{IsRefusedLiteral}
use Rattle.fixed_numeral.specs.declared.error.ParseErrorKind.{ParseErrorKind}
use Rattle.fixed_constants.proofs.ReadingLemmas.{literal_in, literal_out}
use Rattle.fixed_constants.proofs.declaration.literal_bits.Goals as goal

pub returns-in-Some-clause-bits : goal.returns-in-Some-clause-bits
returns-in-Some-clause-bits c =
    let fits : FitsSigned w128 c.in-Some.bits = search rules in
    let lit = c.in-Ok.ensures.literal.0 refl in
    rw (to_z-of_z w128 c.in-Some.bits fits) (literal_in c.args.format c.args.literal.now c.in-Ok.found lit.0 c.in-Some.bits c.in-Ok.ensures.format lit.1 (c.in-Ok.ensures.reading lit.0 lit.1) c.in-Some.ensures.image c.in-Some.ensures.range)

pub returns-in-None-clause-refused : goal.returns-in-None-clause-refused
returns-in-None-clause-refused c =
    let lit = c.in-Ok.ensures.literal.0 refl in
    let P : ParseErrorKind → Type 0 = λ k. IsRefusedLiteral c.args.format c.args.literal.now k in
    subst P (sym c.new.ensures) (literal_out c.args.format c.args.literal.now c.in-Ok.found lit.0 c.in-Ok.ensures.format lit.1 (c.in-Ok.ensures.reading lit.0 lit.1) (λ v h. ((c.in-None.ensures.none v h).0 (search rules)).1))
