use Rattle.std.proofs.Common.{arith}
use Rattle.fixed.proofs.RangeLemmas.{cut_is, whole_is}
use Rattle.fixed.proofs.commands.column_words.range_numbered.Goals as goal

pub returns-in-Some : goal.returns-in-Some
returns-in-Some c =
    cut_is c.args.word.now c.in-Some.first.now c.in-Some.last.now c.span_numbered.result
    (c.in-Some.ensures.byte (omega arith) (λ w o f. f)) c.span_numbered.ensures

pub returns-in-None : goal.returns-in-None
returns-in-None c =
    whole_is c.args.word.now c.one_numbered.result (c.in-None.ensures.byte (omega arith) (λ w o f. f)) c.one_numbered.ensures
