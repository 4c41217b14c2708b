use Rattle.std.proofs.Common.{ℤ, FitsSigned, rules, ◌∙◌}
use Rattle.std.specs.Int.{w128}
use Rattle.std.proofs.lemmas.Int.{to_z-of_z}
use Rattle.fixed_bits.specs.Images.{IsWrapped}
use Rattle.fixed_show.proofs.HexLemmas.{unsigned_word}
use Rattle.fixed_show.proofs.bits.word_of.Goals as goal

pub returns : goal.returns
returns c =
    let v : ℤ = c.unwrap.result in
    let b : ℤ = c.args.bits in
    let fit : FitsSigned w128 v = search rules in
    let given : FitsSigned w128 b = search rules in
    let words = c.of-words.result in
    let image : IsWrapped words.signed words.width b v = rw (c.unwrap.ensures, to_z-of_z w128 b given) at c.image.ensures.image in
    rw (to_z-of_z w128 v fit) (unsigned_word words.signed words.width c.args.format.width b v c.of-words.ensures.signed (c.of-words.ensures.width ∙ c.width.ensures.width) image)
