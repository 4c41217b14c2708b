use Rattle.std.proofs.Common.{ℤ, FitsSigned, rules}
use Rattle.std.specs.Int.{w128}
use Rattle.std.proofs.lemmas.Int.{to_z-of_z}
use Rattle.fixed_show.specs.Blocks.{Appends}
use Rattle.fixed_show.specs.ShortError.{IsErrorText}
use Rattle.fixed_show.specs.declared.form.Form.TheVariants.{Lines}
use Rattle.fixed_show.proofs.measure.push_long.Goals as goal

pub returns-clause-error : goal.returns-clause-error
returns-clause-error g c = λ p numeral.
    let b : ℤ = c.args.bits in
    let fit : FitsSigned w128 b = search rules in
    let error : Appends (IsErrorText Lines c.args.measure c.args.radix p c.args.frac b) 1380 c.args.out.now c.push_error.new.out = rw (to_z-of_z w128 b fit) at (c.push_error.ensures.error c.args.radix p (c.brief_decimal-numeral.ensures.numeral p numeral)) in
    error
