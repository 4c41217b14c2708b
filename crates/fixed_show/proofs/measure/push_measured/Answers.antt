use Rattle.std.proofs.Common.{ℤ, FitsSigned, rules}
use Rattle.std.specs.Int.{w128}
use Rattle.std.proofs.lemmas.Int.{to_z-of_z}
use Rattle.fixed_show.specs.Blocks.{Appends}
use Rattle.fixed_show.specs.ShortError.{IsErrorText}
use Rattle.fixed_show.specs.ShowBlock.{IsReadAs}
use Rattle.fixed_show.specs.declared.form.Form.TheVariants.{Lines}
use Rattle.fixed_show.proofs.measure.push_measured.Goals as goal

pub returns-in-Ok-clause-error : goal.returns-in-Ok-clause-error
returns-in-Ok-clause-error g c =
    let b : ℤ = c.in-Ok.shown.bits in
    let fit : FitsSigned w128 b = search rules in
    let f = c.args.format in
    let read : IsReadAs c.args.mode c.args.radix c.args.text.now f c.args.policy b c.in-Ok.shown.overflowed = c.in-Ok.ensures.read in
    let error : Appends (IsErrorText Lines c.args.measure c.args.radix read.parts f.frac b) 1380 c.args.out.now c.push_error_by.new.out
    = rw (to_z-of_z w128 b fit, c.frac_of.ensures.value) at (c.push_error_by.ensures.error read.parts read.numeral) in
    record {
      text = error.text;
      is_text = record { bits = b; overflowed = c.in-Ok.shown.overflowed; read = read; is_error = error.is_text };
      appended = error.appended;
      short = error.short;
    }
