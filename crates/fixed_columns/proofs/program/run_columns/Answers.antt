use Rattle.std.proofs.Common.{◌≡◌, ℕ, arith, subst}
use Rattle.line_engine.specs.Asked.{AskedWithin}
use Rattle.line_engine.specs.WholeRun.{HasWholeRun}
use Rattle.fixed_columns.specs.Answer.{IsWholeAnswer}
use Rattle.fixed_columns.proofs.CommandLemmas.{limit_one}
use Rattle.fixed_columns.proofs.program.run_columns.Goals as goal

pub returns-in-Some-clause-output : goal.returns-in-Some-clause-output
returns-in-Some-clause-output g c limit is input whole short =
    let same : c.in-Some.limit ≡ limit = limit_one c.args.words.now c.in-Some.limit limit c.in-Some.ensures.limit is in
    c.run_whole.ensures.output input whole (omega (arith, short, same))

pub returns-in-Some-clause-too_long : goal.returns-in-Some-clause-too_long
returns-in-Some-clause-too_long g c limit is input whole long =
    let same : c.in-Some.limit ≡ limit = limit_one c.args.words.now c.in-Some.limit limit c.in-Some.ensures.limit is in
    c.run_whole.ensures.too_long input whole (omega (arith, long, same))

pub returns-in-Some-clause-run : goal.returns-in-Some-clause-run
returns-in-Some-clause-run g c limit is =
    let same : c.in-Some.limit ≡ limit = limit_one c.args.words.now c.in-Some.limit limit c.in-Some.ensures.limit is in
    let P : ℕ → Type 0 = λ l. HasWholeRun IsWholeAnswer l (g.S.Source.left c.args.source.now) (g.S.Source.left c.run_whole.new.source) (g.K.Sink.written c.args.sink.now) (g.K.Sink.written c.run_whole.new.sink) c.run_whole.result in
    subst P same c.run_whole.ensures.run

pub returns-in-Some-clause-asked : goal.returns-in-Some-clause-asked
returns-in-Some-clause-asked g c limit is =
    let same : c.in-Some.limit ≡ limit = limit_one c.args.words.now c.in-Some.limit limit c.in-Some.ensures.limit is in
    let P : ℕ → Type 0 = λ l. AskedWithin l (g.S.Source.asked c.args.source.now) (g.S.Source.asked c.run_whole.new.source) in
    subst P same c.run_whole.ensures.asked
