use Rattle.std.proofs.Common.{arith, rules, ap, ◌∙◌, length, length-append}
use Rattle.fixed_write.proofs.ExactLemmas.{exact_at_once}
use Rattle.fixed_write.proofs.IntegerLemmas.{word_digits}
use Rattle.fixed_write.proofs.places.push_exact_decimal.Goals as goal

pub push_whole-requires : goal.push_whole-requires
push_whole-requires g c = (search rules, omega (arith, word_digits c.args.value.whole c.args.value.word, c.requires))

pub push_reduced-requires : goal.push_reduced-requires
push_reduced-requires g c =
    (search rules, (omega (arith, c.args.value.below), omega (arith, c.requires, word_digits c.args.value.whole c.args.value.word, ap length c.push_whole.ensures ∙ length-append c.args.out.now _)))

pub returns-then-value-eq0 : goal.returns-then-value-eq0
returns-then-value-eq0 g c =
    exact_at_once c.args.value.whole c.args.value.rest _ _ _ _ c.if-value-eq0.true (omega arith) c.push_whole.ensures c.push_reduced.ensures
