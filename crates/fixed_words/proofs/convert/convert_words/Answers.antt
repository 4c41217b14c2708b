use Rattle.std.proofs.Common.{◌≡◌, ◌∙◌, ℕ, ap, arith, refl, subst, sym}
use Rattle.std.proofs.lemmas.Grind.{common_steps}
use Rattle.line_engine.specs.Program.{Outside, outside}
use Rattle.run_engine.specs.LineStatus.{IsStatus}
use Rattle.run_engine.specs.Run.{HasRun}
use Rattle.run_engine.specs.Seen.{Moment, Seen, moment, seen_of}
use Rattle.run_engine.proofs.Public.{run_of}
use Rattle.line_rejects.specs.Rejects.{sight_of}
use Rattle.line_rejects.specs.declared.rejects.Rejects.{Rejects}
use Rattle.fixed_command.specs.Rejects.{name_of}
use Rattle.fixed_words.specs.Run.{MakesBy, MakesWords}
use Rattle.fixed_words.specs.Told.{Told, nothing_told, told_of}
use Rattle.fixed_words.specs.declared.convert.WordsEnd.{WordsEnd}
use Rattle.fixed_words.specs.declared.splitter.Words.{Words}
use Rattle.fixed_words.specs.declared.splitter.WordBytes.{WordBytes}
use Rattle.fixed_words.proofs.convert.convert_words.Goals as goal

pub run-end-requires-clause-fresh : goal.run-end-requires-clause-fresh
run-end-requires-clause-fresh g c = (refl, c.new-words.ensures.goes c.args.rule.now _ _)

pub returns-in-Ok-clause-run : goal.returns-in-Ok-clause-run
returns-in-Ok-clause-run g c = λ some.
    let source : ◌≡◌ {A = g.row.S.Denot} c.source-1.given.0 c.run-end.new.out.io.source.now = grind (arith, common_steps, c.run-end.ensures.same.source, c.new-out.ensures.io) in
    let source_first : ◌≡◌ {A = g.row.S.Denot} c.new-out.result.io.source.now c.args.source.now = grind (arith, common_steps, c.new-out.ensures.io) in
    let sink : ◌≡◌ {A = g.row.K.Denot} c.sink-1.given.0 c.run-end.new.out.io.sink.now = grind (arith, common_steps, c.run-end.ensures.same.sink, c.new-out.ensures.io) in
    let sink_first : ◌≡◌ {A = g.row.K.Denot} c.new-out.result.io.sink.now c.args.sink.now = grind (arith, common_steps, c.new-out.ensures.io) in
    let at : g.row.S.Denot → g.row.K.Denot → Outside = λ s k. outside (g.S.Source.left s) (g.S.Source.asked s) (g.S.Source.failures s) (g.K.Sink.written k) (g.K.Sink.failures k) c.args.steps.now in
    let then : g.row.S.Denot → g.row.K.Denot → Outside = λ s k. outside (g.S.Source.left s) (g.S.Source.asked s) (g.S.Source.failures s) (g.K.Sink.written k) (g.K.Sink.failures k) c.run-end.new.steps in
    let written = g.J.Sink.written in
    let failures = g.J.Sink.failures in
    let s = c.args.rule.now in
    let none = c.errors_of.result in
    let first : WordBytes g.row.J.Denot = record { rule = c.args.rule; words = c.new-words.result; rejects = c.replace.result } in
    let machine = c.run-end.new.machine in
    let seen : g.row.S.Denot → g.row.K.Denot → ℕ → ℕ → Seen = λ s k i j. seen_of (g.S.Source.left s) (g.S.Source.asked s) (g.S.Source.failures s) (g.K.Sink.written k) (g.K.Sink.failures k) i j in
    let io = c.new-out.result.io in
    let io' = c.run-end.new.out.io in
    let a : Moment = moment (seen io.source.now io.sink.now io.source.ghost_name io.sink.ghost_name) c.new-out.result.text c.args.steps.now in
    let b : Moment = moment (seen io'.source.now io'.sink.now io'.source.ghost_name io'.sink.ghost_name) c.run-end.new.out.text c.run-end.new.steps in
    let begins : told_of written failures c.new-words.result c.replace.result ≡ nothing_told none (name_of c.args.rejects.now) (sight_of written failures c.args.rejects.now) =
    c.new-words.ensures.nothing _ _ ∙ ap (λ (r : Rejects g.row.J.Denot). nothing_told none (name_of r) (sight_of written failures r)) c.replace.ensures.value in
    let told : WordsEnd → Told = λ e. record {
      refused = e.refused;
      first = e.first;
      tally = e.tally;
      errors = e.errors;
      name = name_of machine.0.rejects;
      rejects = sight_of written failures machine.0.rejects;
    } in
    let last : told_of written failures machine.0.words machine.0.rejects ≡ told c.of.result = ap told (sym c.of.ensures) in (
      none,
      c.errors_of.ensures,
      record {
        words = machine.0.words;
        a = a;
        b = b;
        end = c.run-end.result;
        is_before = ap (λ s. at s c.new-out.result.io.sink.now) source_first ∙ ap (λ k. at c.args.source.now k) sink_first;
        is_after = ap (λ s. then s c.run-end.new.out.io.sink.now) (sym source) ∙ ap (λ k. then c.source-1.given.0 k) (sym sink);
        ends = subst (IsStatus c.run-end.result) (ap (λ (e : WordsEnd). e.status) (sym c.of.ensures)) c.status_of.ensures;
        run = subst (λ limit. HasRun {M = Words × Told} (λ bytes text spent how it. MakesWords s (nothing_told none (name_of c.args.rejects.now) (sight_of written failures c.args.rejects.now)) bytes text how it.0 it.1) (machine.0.words, told c.of.result) limit a b c.run-end.result) c.bytes_within.ensures.value
            (run_of (λ bytes text spent how it. MakesBy written failures first bytes text spent how it.0) (λ bytes text spent how (it : Words × Told). MakesWords s (nothing_told none (name_of c.args.rejects.now) (sight_of written failures c.args.rejects.now)) bytes text how it.0 it.1) machine (machine.0.words, told c.of.result)
            (λ used text spent how makes. subst (λ t. MakesWords s t used text how machine.0.words (told c.of.result)) begins (subst (MakesWords s (told_of written failures c.new-words.result c.replace.result) used text how machine.0.words) last makes.1))
            c.bytes_within.result a b c.run-end.result c.run-end.ensures);
      },
    )
