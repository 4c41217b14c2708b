use Rattle.std.proofs.Common.{ℕ, ℤ, FitsSigned, rules, subst, sym}
use Rattle.std.specs.Int.{w128}
use Rattle.std.proofs.lemmas.Int.{to_z-of_z}
use Rattle.fixed_numeral.specs.Value.{magnitude}
use Rattle.fixed_show.specs.ErrorText.{error_den, error_num}
use Rattle.fixed_show.specs.Inner.Errors.{IsDecimalOf}
use Rattle.fixed_show.specs.ShortError.{measured_den}
use Rattle.fixed_show.proofs.ulps.measured_error.Goals as goal

pub returns-in-Value-clause-error : goal.returns-in-Value-clause-error
returns-in-Value-clause-error c = λ r p numeral.
    let b : ℤ = c.args.bits in
    let fit : FitsSigned w128 b = search rules in
    let f : ℕ = c.args.frac in
    let e = c.exact_error.result in
    let is : IsDecimalOf (error_num r p f b) (error_den r p f) e.is_negative e.number e.places = rw (to_z-of_z w128 b fit) at (c.exact_error.ensures.error r p numeral) in
    subst (λ m. IsDecimalOf (error_num r p f b) (measured_den m r p f) e.is_negative e.number e.places) (sym c.in-Value.is) is

pub returns-in-Ulps-clause-error : goal.returns-in-Ulps-clause-error
returns-in-Ulps-clause-error c = λ r p numeral.
    let b : ℤ = c.args.bits in
    let fit : FitsSigned w128 b = search rules in
    let f : ℕ = c.args.frac in
    let e = c.exact_ulps.result in
    let is : IsDecimalOf (error_num r p f b) (magnitude r p).den e.is_negative e.number e.places = rw (to_z-of_z w128 b fit) at (c.exact_ulps.ensures.ulps r p numeral) in
    subst (λ m. IsDecimalOf (error_num r p f b) (measured_den m r p f) e.is_negative e.number e.places) (sym c.in-Ulps.is) is
