use Rattle.std.proofs.Common.{◌^◌, ◌<◌, ℕ, ℤ, FitsSigned, rules}
use Rattle.std.specs.Int.{w128}
use Rattle.std.proofs.lemmas.Int.{to_z-of_z}
use Rattle.fixed_show.specs.ErrorText.{error_num}
use Rattle.fixed_show.specs.Inner.Errors.{IsDecimalOf}
use Rattle.fixed_show.specs.ShortError.{measured_den}
use Rattle.fixed_show.proofs.NarrowLemmas.{written_below}
use Rattle.fixed_show.proofs.narrow.push_narrow_error.Goals as goal

pub returns-in-Some-clause-error : goal.returns-in-Some-clause-error
returns-in-Some-clause-error g c = λ _ r p numeral.
    let b : ℤ = c.args.bits in
    let fit : FitsSigned w128 b = search rules in
    let m = c.args.measure in
    let f : ℕ = c.args.frac in
    let e = c.in-Some.error in
    let small : c.args.numeral.number < 2 ^ 128 = search rules in
    let is : IsDecimalOf (error_num r p f b) (measured_den m r p f) e.is_negative e.number e.places = rw (to_z-of_z w128 b fit) at (c.in-Some.ensures.error r p numeral) in
    written_below m r p f b e.is_negative c.args.numeral.is_negative e.number e.places c.args.numeral.number c.args.numeral.places c.args.out.now c.push_below_one.new.out numeral small c.requires.few is (c.is_below_one.ensures.few c.if-is_below_one.true) c.push_below_one.ensures.text
