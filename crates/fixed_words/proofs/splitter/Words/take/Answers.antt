use Rattle.std.proofs.Common.{◌∙◌, inl, inr, subst, sym}
use Rattle.std.proofs.lemmas.Result.{on_err_weaker, on_ok_weaker}
use Rattle.fixed_command.specs.Rejects.{name_of}
use Rattle.line_rejects.specs.Rejects.{sight_of}
use Rattle.fixed_words.specs.Inner.Progress.{TellsIfEnded}
use Rattle.fixed_words.specs.Told.{told_of}
use Rattle.fixed_words.proofs.WordLemmas.{puts_none}
use Rattle.fixed_words.proofs.splitter.Words.take.Goals as goal

pub returns-then-is_separator-clause-tells : goal.returns-then-is_separator-clause-tells
returns-then-is_separator-clause-tells g c =
    let told = told_of g.J.Sink.written g.J.Sink.failures in
    subst (λ b. TellsIfEnded b c.args.rule.now c.args.self.now (told c.args.self.now c.args.rejects.now) (told c.end_word.new.self c.end_word.new.rejects)) (sym (sym c.is_separator.ensures ∙ c.if-is_separator.true)) c.end_word.ensures.tells

pub returns-then-is_separator-clause-ok : goal.returns-then-is_separator-clause-ok
returns-then-is_separator-clause-ok g c =
    on_ok_weaker c.end_word.result (λ e. inl (record { ends = sym c.is_separator.ensures ∙ c.if-is_separator.true; word = e; none = c.end_word.ensures.word })) c.end_word.ensures.ok

pub returns-then-is_separator-clause-err : goal.returns-then-is_separator-clause-err
returns-then-is_separator-clause-err g c =
    on_err_weaker c.end_word.result (λ e. inl (record { ends = sym c.is_separator.ensures ∙ c.if-is_separator.true; word = e; none = c.end_word.ensures.word })) c.end_word.ensures.err

pub returns-clause-tells : goal.returns-clause-tells
returns-clause-tells g c =
    let rejects = c.args.rejects.now in
    let told = told_of g.J.Sink.written g.J.Sink.failures in
    subst (λ b. TellsIfEnded b c.args.rule.now c.args.self.now (told c.args.self.now rejects) (told c.keep.new.self rejects)) (sym (sym c.is_separator.ensures ∙ c.if-is_separator.false))
    (c.keep.ensures.told (name_of rejects) (sight_of g.J.Sink.written g.J.Sink.failures rejects))

pub returns-clause-ok : goal.returns-clause-ok
returns-clause-ok g c = inr (record {
  inner = sym c.is_separator.ensures ∙ c.if-is_separator.false;
  kept = c.keep.ensures.word;
  fault = c.keep.ensures.fault;
  sent = puts_none (g.I.Streams.seen c.args.out.now.io) c.args.out.now.text;
})
