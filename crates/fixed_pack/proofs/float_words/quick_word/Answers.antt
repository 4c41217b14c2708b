use Rattle.fixed_bits.proofs.Public.{in_range_of}
use Rattle.fixed_bits.specs.Numbers.{with_sign}
use Rattle.fixed_bits.specs.declared.format.Policy.TheVariants.{Wrapping}
use Rattle.fixed_pack.proofs.FloatLemmas.{kept_word}
use Rattle.fixed_pack.proofs.float_words.quick_word.Goals as goal

pub signed_word-requires : goal.signed_word-requires
signed_word-requires c =
    let format = c.args.floats.now.format in
    let number = c.in_ok-number.number in
    in_range_of Wrapping format.signed format.width (with_sign number.negative number.magnitude) ((c.is_kept.ensures.kept c.if-is_kept.true).in_range Wrapping)

pub returns-then-is_kept : goal.returns-then-is_kept
returns-then-is_kept c = λ few.
    kept_word c.args.floats.now c.args.bits c.signed_word.result c.in_ok-number.number (c.in_ok-number.ensures few) (c.is_kept.ensures.kept c.if-is_kept.true) c.signed_word.ensures
