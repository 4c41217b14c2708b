use Rattle.std.proofs.Common.{ℕ, ℤ, pos, FitsSigned, rules, arith}
use Rattle.std.specs.Int.{w128}
use Rattle.std.proofs.lemmas.Int.{to_z-of_z}
use Rattle.fixed_bits.specs.Images.{IsWrapped}
use Rattle.fixed_show.proofs.WordLemmas.{plain_is}
use Rattle.fixed_show.proofs.words.read_plain.Goals as goal

pub returns-clause-word : goal.returns-clause-word
returns-clause-word c =
    let f = c.args.format in
    let number : ℕ = c.in_ok-number.number in
    let v : ℤ = c.bits_of.result in
    let fit : FitsSigned w128 v = search rules in
    let wrapped : IsWrapped f.signed f.width (pos number) v = c.bits_of.ensures.image in
    rw (to_z-of_z w128 v fit) (plain_is c.args.bare f c.args.text.now number c.words_of.result v c.requires c.in_ok-number.ensures c.words_of.ensures.count c.words_of.ensures.most (omega arith) wrapped)
