use Rattle.std.proofs.Common.{ℤ, FitsSigned, rules}
use Rattle.std.specs.Int.{w128}
use Rattle.std.proofs.lemmas.Int.{to_z-of_z}
use Rattle.fixed_show.specs.Blocks.{Appends}
use Rattle.fixed_show.specs.ShortError.{IsErrorText}
use Rattle.fixed_show.specs.ShowBlock.{IsReadAs}
use Rattle.fixed_show.specs.declared.form.Form.TheVariants.{Members}
use Rattle.fixed_show.specs.declared.measure.Measure.TheVariants.{Value}
use Rattle.fixed_show.proofs.show.push_error_of.Goals as goal

pub returns-in-Ok-clause-shown : goal.returns-in-Ok-clause-shown
returns-in-Ok-clause-shown g c = λ _.
    let b : ℤ = c.in-Ok.shown.bits in
    let fit : FitsSigned w128 b = search rules in
    let f = c.args.format in
    let r = c.args.radix in
    let read : IsReadAs c.args.mode r c.args.text.now f c.args.policy b c.in-Ok.shown.overflowed = c.in-Ok.ensures.read in
    let error : Appends (IsErrorText Members Value r read.parts f.frac b) 1380 c.args.out.now c.push_error.new.out
    = rw (to_z-of_z w128 b fit, c.frac_of.ensures.value) at (c.push_error.ensures.error r read.parts (c.brief_decimal-numeral.ensures.numeral read.parts read.numeral)) in
    record {
      text = error.text;
      is_text = record { bits = b; overflowed = c.in-Ok.shown.overflowed; read = read; is_error = error.is_text };
      appended = error.appended;
      short = error.short;
    }
