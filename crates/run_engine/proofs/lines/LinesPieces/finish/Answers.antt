use Rattle.std.proofs.Common.{◌+◌, ◌≡◌, ◌<◌, ◌++◌, ◌∙◌, [], lit<, refl, subst, sym}
use Rattle.line_engine.specs.Lines.{kept_length, unended}
use Rattle.run_engine.specs.LineRun.{EndsLine, MakesLines}
use Rattle.run_engine.specs.Machines.{Goes, going}
use Rattle.run_engine.specs.Reply.{Returns}
use Rattle.run_engine.specs.Seen.{moment}
use Rattle.line_engine.proofs.Public.{kept_unended, none_kept, one_last}
use Rattle.run_engine.proofs.LineRunLemmas.{last_goes, last_none}
use Rattle.run_engine.proofs.MachineLemmas.{goes_breaks, goes_none}
use Rattle.run_engine.proofs.lines.LinesPieces.finish.Goals as goal

some : 0 < kept_length
some = lit< tt

pub returns-then-is_empty : goal.returns-then-is_empty
returns-then-is_empty g c = λ first bytes made spent makes.
    let none : c.args.self.now.line ≡ [] = c.is_empty.ensures.0 c.if-is_empty.true in
    last_none (g.R.Rule.Answers first.rule.now) (Returns (g.R.Rule.Notes first.rule.now) (g.R.Rule.refusal first.rule.now)) (g.W.Watch.Saw first.rule.now) (g.R.Rule.PER_BYTE + g.W.Watch.PER_BYTE) (g.R.Rule.EXTRA + g.W.Watch.EXTRA) first c.args.self.now bytes made spent
    (moment (g.I.Streams.seen c.args.out.now.io) c.args.out.now.text c.args.steps.now) makes (none_kept kept_length (unended bytes) some (sym none ∙ makes.line))

pub returns-in-Err : goal.returns-in-Err
returns-in-Err g c = λ first bytes made spent makes.
    let Makes = MakesLines (g.R.Rule.Answers first.rule.now) (Returns (g.R.Rule.Notes first.rule.now) (g.R.Rule.refusal first.rule.now)) (g.W.Watch.Saw first.rule.now) (g.R.Rule.PER_BYTE + g.W.Watch.PER_BYTE) (g.R.Rule.EXTRA + g.W.Watch.EXTRA) first in
    let a = moment (g.I.Streams.seen c.args.out.now.io) c.args.out.now.text c.args.steps.now in
    let d = moment (g.I.Streams.seen c.end_line.new.out.io) c.end_line.new.out.text c.end_line.new.steps in
    goes_breaks Makes bytes made spent [] [] [] c.end_line.new.self a a d refl
    (subst (λ m. Goes Makes bytes made spent [] going m a a) (sym c.in-Err.ensures.same.0) (goes_none Makes bytes made spent c.args.self.now a makes))
    c.in-Err.ensures.err c.in-Err.ensures.same.1

pub returns-in-Ok : goal.returns-in-Ok
returns-in-Ok g c = λ first bytes made spent makes.
    let old = c.args.self.now in
    let new = c.end_line.new.self in
    let a = moment (g.I.Streams.seen c.args.out.now.io) c.args.out.now.text c.args.steps.now in
    let d = moment (g.I.Streams.seen c.end_line.new.out.io) c.end_line.new.out.text c.end_line.new.steps in
    last_goes (g.R.Rule.Answers first.rule.now) (Returns (g.R.Rule.Notes first.rule.now) (g.R.Rule.refusal first.rule.now)) (g.W.Watch.Saw first.rule.now) (g.R.Rule.PER_BYTE + g.W.Watch.PER_BYTE) (g.R.Rule.EXTRA + g.W.Watch.EXTRA) first old new bytes made spent a d makes
    (one_last kept_length (unended bytes) old.line c.is_empty.result (kept_unended kept_length bytes old.line makes.line) c.is_empty.ensures.1 c.if-is_empty.false)
    (λ whole kept. subst (λ r. EndsLine (g.R.Rule.Answers r.now) (Returns (g.R.Rule.Notes r.now) (g.R.Rule.refusal r.now)) (g.W.Watch.Saw r.now) (g.R.Rule.PER_BYTE + g.W.Watch.PER_BYTE) (g.R.Rule.EXTRA + g.W.Watch.EXTRA) (whole ++ []) old new a d) makes.made.same (c.in-Ok.ensures.ok whole kept))
