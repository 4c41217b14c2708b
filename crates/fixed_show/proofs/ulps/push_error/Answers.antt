use Rattle.std.proofs.Common.{ℕ, ℤ, FitsSigned, rules}
use Rattle.std.specs.Int.{w128}
use Rattle.std.proofs.lemmas.Int.{to_z-of_z}
use Rattle.fixed_show.specs.ErrorText.{IsBriefNumeral, error_num}
use Rattle.fixed_show.specs.Inner.Errors.{IsDecimalOf}
use Rattle.fixed_show.specs.Inner.Measures.{IsDecimalNumeral}
use Rattle.fixed_show.specs.ShortError.{measured_den}
use Rattle.fixed_show.proofs.MeasureLemmas.{exact_is, measured_some, unwritten_is}
use Rattle.fixed_show.proofs.ulps.push_error.Goals as goal

pub returns-in-Some-clause-error : goal.returns-in-Some-clause-error
returns-in-Some-clause-error g c = λ r p is.
    let b : ℤ = c.args.bits in
    let fit : FitsSigned w128 b = search rules in
    let m = c.args.measure in
    let f : ℕ = c.args.frac in
    let d = c.in-Some.numeral in
    let e = c.measured_error.result in
    let known : IsBriefNumeral r p × IsDecimalNumeral r p d.number d.places d.is_negative = rw c.in-Some.is at is in
    let error : IsDecimalOf (error_num r p f b) (measured_den m r p f) e.is_negative e.number e.places = rw (to_z-of_z w128 b fit) at (c.measured_error.ensures.error r p known.1) in
    exact_is c.args.form m r p f b c.args.out.now c.push_decimal.new.out known.0 (c.push_decimal.ensures.decimal (error_num r p f b) (measured_den m r p f) (measured_some m r p f) error)

pub returns-in-None-clause-error : goal.returns-in-None-clause-error
returns-in-None-clause-error g c = λ r p is.
    let b : ℤ = c.args.bits in
    let long : IsBriefNumeral r p → ⊥ = rw c.in-None.is at is in
    unwritten_is c.args.form c.args.measure r p c.args.frac b c.args.out.now c.push_bytes.new.self long c.push_bytes.ensures
