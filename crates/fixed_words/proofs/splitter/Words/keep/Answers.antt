use Rattle.std.proofs.Common.{◌∙◌, arith}
use Rattle.fixed_words.proofs.WordLemmas.{keep_more, keep_none}
use Rattle.fixed_words.proofs.splitter.Words.keep.Goals as goal

pub returns-then-len-lt-MAX_RECORD-clause-word : goal.returns-then-len-lt-MAX_RECORD-clause-word
returns-then-len-lt-MAX_RECORD-clause-word c = λ word is.
    c.push.ensures ∙ keep_more word c.args.self.now.word c.args.byte (omega (arith, c.len.ensures.count, c.if-len-lt-MAX_RECORD.true)) is

pub returns-else-len-lt-MAX_RECORD-clause-word : goal.returns-else-len-lt-MAX_RECORD-clause-word
returns-else-len-lt-MAX_RECORD-clause-word c = λ word is.
    keep_none word c.args.self.now.word c.args.byte (omega (arith, c.len.ensures.count, c.if-len-lt-MAX_RECORD.false)) is
