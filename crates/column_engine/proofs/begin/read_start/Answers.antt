use Rattle.std.proofs.Common.{◌++◌, ◌∷◌, [], ap, ◌∙◌}
use Rattle.column_engine.proofs.RunLemmas.{other_mark}
use Rattle.column_engine.proofs.begin.read_start.Goals as goal

pub returns-then-byte-at-clause-begins : goal.returns-then-byte-at-clause-begins
returns-then-byte-at-clause-begins g c = λ more.
    other_mark c.bytes.at c.in-Ok-Some.byte c.push.new.self more c.bytes-test.true
    (c.push.ensures ∙ ap (λ l. l ++ c.in-Ok-Some.byte ∷ []) c.bytes.invariant.is) c.if-byte-at.true
