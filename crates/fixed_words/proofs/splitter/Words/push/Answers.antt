use Rattle.std.proofs.Common.{⊎_elim, subst, sym}
use Rattle.std.proofs.lemmas.Result.{on_err_weaker, on_ok_weaker}
use Rattle.run_engine.specs.Seen.{Breaks, Puts}
use Rattle.fixed_command.specs.Rejects.{name_of}
use Rattle.line_rejects.specs.Rejects.{sight_of}
use Rattle.fixed_words.specs.Inner.Progress.{TakesByte}
use Rattle.fixed_words.specs.Told.{told_of}
use Rattle.fixed_words.proofs.WordLemmas.{takes_end, takes_part}
use Rattle.fixed_words.proofs.splitter.Words.push.Goals as goal

pub returns-clause-ok : goal.returns-clause-ok
returns-clause-ok g c =
    let it = c.take-result in
    let Sent = Puts (g.I.Streams.seen c.args.out.now.io) (g.I.Streams.seen it.new.out.io) c.args.out.now.text it.new.out.text in
    let s = c.args.rule.now in
    let old = c.args.self.now in
    let mid = it.new.self in
    let new = c.pass.new.self in
    let rejects = it.new.rejects in
    let told = told_of g.J.Sink.written g.J.Sink.failures in
    let first = told old c.args.rejects.now in
    let last = told mid rejects in
    on_ok_weaker it.result (λ t. subst (λ v. TakesByte s c.args.byte old new first v Sent) (sym (c.pass.ensures.told (name_of rejects) (sight_of g.J.Sink.written g.J.Sink.failures rejects))) (⊎_elim
    (λ e. takes_end s c.args.byte old mid new first last Sent e it.ensures.place it.ensures.tells c.pass.ensures.passes)
    (λ a. takes_part s c.args.byte old mid new first last Sent a it.ensures.place it.ensures.tells c.pass.ensures.passes) t)) it.ensures.ok

pub returns-clause-err : goal.returns-clause-err
returns-clause-err g c =
    let it = c.take-result in
    let Sent = Breaks (g.I.Streams.seen c.args.out.now.io) (g.I.Streams.seen it.new.out.io) c.args.out.now.text in
    let s = c.args.rule.now in
    let old = c.args.self.now in
    let mid = it.new.self in
    let new = c.pass.new.self in
    let rejects = it.new.rejects in
    let told = told_of g.J.Sink.written g.J.Sink.failures in
    let first = told old c.args.rejects.now in
    let last = told mid rejects in
    on_err_weaker it.result (λ t. subst (λ v. TakesByte s c.args.byte old new first v Sent) (sym (c.pass.ensures.told (name_of rejects) (sight_of g.J.Sink.written g.J.Sink.failures rejects))) (⊎_elim
    (λ e. takes_end s c.args.byte old mid new first last Sent e it.ensures.place it.ensures.tells c.pass.ensures.passes)
    (λ a. takes_part s c.args.byte old mid new first last Sent a it.ensures.place it.ensures.tells c.pass.ensures.passes) t)) it.ensures.err
