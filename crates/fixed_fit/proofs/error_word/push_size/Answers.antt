use Rattle.std.proofs.Common.{◌∙◌, ap}
use Rattle.fixed_fit.specs.ErrorWord.{without_minus}
use Rattle.fixed_fit.proofs.ErrorWordLemmas.{size_appended}
use Rattle.fixed_fit.proofs.error_word.push_size.Goals as goal

pub returns-clause-size : goal.returns-clause-size
returns-clause-size g c =
    let read = c.push_error_of-is_read in
    size_appended c.args.radix c.args.format c.args.numeral.now c.new-text.result read.new.out c.without_minus.result.now c.args.out.now c.push_bytes.new.self read.result c.new-text.ensures c.requires.fits read.ensures.shown read.ensures.none (c.without_minus.ensures ∙ ap without_minus c.as_bytes.ensures.value) c.push_bytes.ensures
