use Rattle.std.proofs.Common.{refl}
use Rattle.std.proofs.lemmas.Result.{on_err_weaker, on_ok_weaker}
use Rattle.run_engine.specs.Seen.{Breaks, Puts}
use Rattle.fixed_words.proofs.WordLemmas.{ends_none, ends_same, tells_none}
use Rattle.fixed_words.specs.Inner.Progress.{start_of}
use Rattle.fixed_words.proofs.splitter.Words.end_word.Goals as goal

pub returns-then-is_empty-clause-tells : goal.returns-then-is_empty-clause-tells
returns-then-is_empty-clause-tells g c =
    tells_none c.args.rule.now (start_of c.args.self.now) c.args.self.now.word _ (c.is_empty.ensures.none.0 c.if-is_empty.true)

pub returns-then-is_empty-clause-ok : goal.returns-then-is_empty-clause-ok
returns-then-is_empty-clause-ok g c =
    on_ok_weaker c.put.result (ends_none c.args.rule.now c.args.end.now c.args.self.now (Puts (g.I.Streams.seen c.args.out.now.io) (g.I.Streams.seen c.put.new.self.io) c.args.out.now.text c.put.new.self.text)
    (c.is_empty.ensures.none.0 c.if-is_empty.true)) c.put.ensures.ok

pub returns-then-is_empty-clause-err : goal.returns-then-is_empty-clause-err
returns-then-is_empty-clause-err g c =
    on_err_weaker c.put.result (ends_none c.args.rule.now c.args.end.now c.args.self.now (Breaks (g.I.Streams.seen c.args.out.now.io) (g.I.Streams.seen c.put.new.self.io) c.args.out.now.text)
    (c.is_empty.ensures.none.0 c.if-is_empty.true)) c.put.ensures.err

pub returns-clause-ok : goal.returns-clause-ok
returns-clause-ok g c =
    let it = c.answer_word-result in
    let mid = it.new.self in
    on_ok_weaker it.result (ends_same c.args.rule.now c.args.self.now.word c.args.end.now c.args.self.now mid
    (record { word = c.clear.new.self; has_fault = mid.has_fault; line = mid.line; byte = mid.byte; start = mid.start; refused = mid.refused; first = mid.first; errors = mid.errors; tally = mid.tally })
    (Puts (g.I.Streams.seen c.args.out.now.io) (g.I.Streams.seen it.new.out.io) c.args.out.now.text it.new.out.text) refl) it.ensures.ok

pub returns-clause-err : goal.returns-clause-err
returns-clause-err g c =
    let it = c.answer_word-result in
    let mid = it.new.self in
    on_err_weaker it.result (ends_same c.args.rule.now c.args.self.now.word c.args.end.now c.args.self.now mid
    (record { word = c.clear.new.self; has_fault = mid.has_fault; line = mid.line; byte = mid.byte; start = mid.start; refused = mid.refused; first = mid.first; errors = mid.errors; tally = mid.tally })
    (Breaks (g.I.Streams.seen c.args.out.now.io) (g.I.Streams.seen it.new.out.io) c.args.out.now.text) refl) it.ensures.err
