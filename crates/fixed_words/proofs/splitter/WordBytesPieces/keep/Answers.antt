use Rattle.std.proofs.Common.{◌++◌, [], append-nil, arith, subst, sym, ◌∙◌, ap}
use Rattle.fixed_words.specs.Run.{GoesOn}
use Rattle.fixed_words.specs.Told.{told_of}
use Rattle.fixed_words.proofs.WordLemmas.{none_left, puts_none}
use Rattle.fixed_words.proofs.splitter.WordBytesPieces.keep.Goals as goal

pub returns : goal.returns
returns g c = λ first bytes made spent makes.
    let self = c.args.self.now in
    let start = told_of g.J.Sink.written g.J.Sink.failures first.words first.rejects in
    let last = told_of g.J.Sink.written g.J.Sink.failures self.words self.rejects in
    record {
      more = [];
      cost = 0;
      makes = (
        makes.0,
        subst (λ l. GoesOn first.rule.now start l (made ++ []) self.words last) (sym (ap (λ l. bytes ++ l) (none_left c.args._part.now c.requires.part) ∙ append-nil bytes))
            (subst (λ l. GoesOn first.rule.now start bytes l self.words last) (sym (append-nil made)) makes.1),
      );
      puts = puts_none (g.I.Streams.seen c.args._out.now.io) c.args._out.now.text;
      steps = omega arith;
    }
