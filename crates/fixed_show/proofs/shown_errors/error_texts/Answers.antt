use Rattle.std.proofs.Common.{ℕ, ℤ, FitsSigned, rules}
use Rattle.std.specs.Int.{w128}
use Rattle.std.proofs.lemmas.Int.{to_z-of_z}
use Rattle.fixed_show.specs.Blocks.{Appends}
use Rattle.fixed_show.specs.ShortError.{IsErrorText}
use Rattle.fixed_show.specs.ShowBlock.{IsReadAs}
use Rattle.fixed_show.specs.declared.form.Form.TheVariants.{Lines}
use Rattle.fixed_show.specs.declared.measure.Measure.TheVariants.{Ulps, Value}
use Rattle.fixed_show.proofs.LineLemmas.{alone}
use Rattle.fixed_show.proofs.shown_errors.error_texts.Goals as goal

pub returns : goal.returns
returns g c =
    let b : ℤ = c.in-Ok.shown.bits in
    let fit : FitsSigned w128 b = search rules in
    let r = c.args.radix in
    let f : ℕ = c.args.format.frac in
    let read : IsReadAs c.args.mode r c.args.text.now c.args.format c.args.policy b c.in-Ok.shown.overflowed = c.in-Ok.ensures.read in
    let kept = c.brief_decimal-numeral.ensures.numeral read.parts read.numeral in
    let error : Appends (IsErrorText Lines Value r read.parts f b) 1380 c.new-error.result c.push_error.new.out = rw (to_z-of_z w128 b fit, c.frac_of-frac.ensures.value) at (c.push_error.ensures.error r read.parts kept) in
    let ulps : Appends (IsErrorText Lines Ulps r read.parts f b) 1380 c.new-ulps.result c.push_error-2.new.out = rw (to_z-of_z w128 b fit, c.frac_of-frac.ensures.value) at (c.push_error-2.ensures.error r read.parts kept) in
    record {
      bits = b;
      overflowed = c.in-Ok.shown.overflowed;
      read = read;
      is_error = alone (IsErrorText Lines Value r read.parts f b) 1380 c.new-error.result c.push_error.new.out c.new-error.ensures error;
      are_ulps = alone (IsErrorText Lines Ulps r read.parts f b) 1380 c.new-ulps.result c.push_error-2.new.out c.new-ulps.ensures ulps;
    }
