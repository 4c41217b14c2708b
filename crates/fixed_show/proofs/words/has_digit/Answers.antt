use Rattle.std.proofs.Common.{get_or, refl, ◌∙◌}
use Rattle.fixed_show.proofs.WordLemmas.{some_digit, without_more_underscore}
use Rattle.fixed_show.proofs.words.has_digit.Goals as goal

pub returns-then-byte-ne95 : goal.returns-then-byte-ne95
returns-then-byte-ne95 c =
    ((λ e. some_digit c.args.bytes.now c.loop-byte.byte-index (get_or c.args.bytes.now c.loop-byte.byte-index 0) c.loop-byte-test.true refl c.if-byte-ne95.true), (λ h. refl))

pub loop-byte-preserved : goal.loop-byte-preserved
loop-byte-preserved c = without_more_underscore c.args.bytes.now c.loop-byte.byte-index c.loop-byte-test.true c.if-byte-ne95.false ∙ c.loop-byte.invariant
