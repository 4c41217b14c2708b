use Rattle.std.proofs.Common.{◌∙◌}
use Rattle.std.proofs.lemmas.Result.{on_err_weaker, on_ok_weaker}
use Rattle.line_rejects.specs.Rejects.{sight_of}
use Rattle.run_engine.specs.Seen.{Breaks, Puts}
use Rattle.fixed_command.specs.Rejects.{name_of}
use Rattle.fixed_words.specs.Told.{told_of}
use Rattle.fixed_words.specs.declared.splitter.Words.{Words}
use Rattle.fixed_words.proofs.WordLemmas.{answered_word, name_same, tells_ending, told_word}
use Rattle.fixed_words.proofs.splitter.Words.answer_word.Goals as goal

pub returns-clause-tells : goal.returns-clause-tells
returns-clause-tells g c =
    let s = c.args.rule.now in
    let old = c.args.self.now in
    let mid = c.count.new.self in
    let last = c.note.new.self in
    let new : Words = record { word = c.put_shown.new.word; has_fault = last.has_fault; line = last.line; byte = last.byte; start = last.start; refused = last.refused; first = last.first; errors = last.errors; tally = last.tally } in
    let word = c.as_slice-word.result.now in
    let ending = c.ending_of-ending.result in
    let rejects = c.args.rejects.now in
    let after = c.reject.new.rejects in
    let sight = sight_of g.J.Sink.written g.J.Sink.failures in
    told_word s old new c.args.end.now word word word c.new-reply.result c.reply_or_refuse-replied.new.out c.reply_or_refuse-replied.new.out c.reply_or_refuse-replied.result ending c.requires.some c.as_slice-word.ensures.bytes c.as_slice-word.ensures.bytes c.new-reply.ensures
    c.reply_or_refuse-replied.ensures.reply c.ending_of-ending.ensures.ending (told_of g.J.Sink.written g.J.Sink.failures old rejects) (told_of g.J.Sink.written g.J.Sink.failures new after)
    (tells_ending s ending old mid new (name_of rejects) (name_of after) (sight rejects) (sight after) c.count.ensures.counts c.count.ensures.word c.count.ensures.place.line c.count.ensures.tally c.count.ensures.errors
    c.note.ensures.noted c.note.ensures.refused c.note.ensures.first c.reject.ensures.puts (name_same rejects after c.reject.ensures.name))

pub returns-clause-ok : goal.returns-clause-ok
returns-clause-ok g c =
    let s = c.args.rule.now in
    let old = c.args.self.now in
    let last = c.note.new.self in
    let it = c.put_shown in
    let new : Words = record { word = it.new.word; has_fault = last.has_fault; line = last.line; byte = last.byte; start = last.start; refused = last.refused; first = last.first; errors = last.errors; tally = last.tally } in
    let word = c.as_slice-word.result.now in
    let Sent = Puts (g.I.Streams.seen c.args.out.now.io) (g.I.Streams.seen it.new.out.io) c.args.out.now.text it.new.out.text in
    on_ok_weaker it.result (answered_word s old new c.args.end.now word word last.word c.new-reply.result c.reply_or_refuse-replied.new.out c.as_bytes.result.now c.reply_or_refuse-replied.result c.ending_of-ending.result c.requires.some c.as_slice-word.ensures.bytes c.as_slice-word.ensures.bytes
    c.new-reply.ensures c.reply_or_refuse-replied.ensures.reply c.ending_of-ending.ensures.ending Sent c.as_bytes.ensures.value (c.note.ensures.word ∙ c.count.ensures.word) (c.note.ensures.fault ∙ c.count.ensures.fault)) it.ensures.ok

pub returns-clause-err : goal.returns-clause-err
returns-clause-err g c =
    let s = c.args.rule.now in
    let old = c.args.self.now in
    let last = c.note.new.self in
    let it = c.put_shown in
    let new : Words = record { word = it.new.word; has_fault = last.has_fault; line = last.line; byte = last.byte; start = last.start; refused = last.refused; first = last.first; errors = last.errors; tally = last.tally } in
    let word = c.as_slice-word.result.now in
    let Sent = Breaks (g.I.Streams.seen c.args.out.now.io) (g.I.Streams.seen it.new.out.io) c.args.out.now.text in
    on_err_weaker it.result (answered_word s old new c.args.end.now word word last.word c.new-reply.result c.reply_or_refuse-replied.new.out c.as_bytes.result.now c.reply_or_refuse-replied.result c.ending_of-ending.result c.requires.some c.as_slice-word.ensures.bytes c.as_slice-word.ensures.bytes
    c.new-reply.ensures c.reply_or_refuse-replied.ensures.reply c.ending_of-ending.ensures.ending Sent c.as_bytes.ensures.value (c.note.ensures.word ∙ c.count.ensures.word) (c.note.ensures.fault ∙ c.count.ensures.fault)) it.ensures.err
