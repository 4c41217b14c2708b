use Rattle.std.proofs.Common.{◌≡◌, ◌<◌, ◌∙◌, [], Err, lit<, subst, sym}
use Rattle.line_engine.proofs.Public.{kept_unended, none_kept, one_last}
use Rattle.line_engine.specs.Lines.{kept_length, unended}
use Rattle.run_engine.specs.Seen.{Puts, moment}
use Rattle.json_lines.specs.Inner.Progress.{EndsLine, LineEnds}
use Rattle.json_lines.specs.Run.{Answers}
use Rattle.json_lines.specs.Told.{SeesLine}
use Rattle.json_lines.proofs.RunLemmas.{last_ends, last_halts, last_none}
use Rattle.json_lines.proofs.splitter.JsonLinesPieces.finish.Goals as goal

some : 0 < kept_length
some = lit< tt

pub returns-then-is_empty : goal.returns-then-is_empty
returns-then-is_empty g c = λ first bytes made spent makes.
    let none : c.args.self.now.line ≡ [] = c.is_empty.ensures.0 c.if-is_empty.true in
    last_none (g.A.FieldRule.Answers first.task.now.rule.now) (g.W.FieldWatch.Saw first.task.now.rule.now) first c.args.self.now bytes made spent
    (moment (g.I.Streams.seen c.args.out.now.io) c.args.out.now.text c.args.steps.now) makes (none_kept kept_length (unended bytes) some (sym none ∙ makes.1.line))

pub returns-in-Err : goal.returns-in-Err
returns-in-Err g c = λ first bytes made spent makes.
    let old = c.args.self.now in
    let new = c.end_line.new.self in
    let a = moment (g.I.Streams.seen c.args.out.now.io) c.args.out.now.text c.args.steps.now in
    let b = moment (g.I.Streams.seen c.end_line.new.out.io) c.end_line.new.out.text c.end_line.new.steps in
    last_halts (g.A.FieldRule.Answers first.task.now.rule.now) (g.W.FieldWatch.Saw first.task.now.rule.now) first old new bytes made spent a b c.in-Err.halt makes
    (one_last kept_length (unended bytes) old.line c.is_empty.result (kept_unended kept_length bytes old.line makes.1.line) c.is_empty.ensures.1 c.if-is_empty.false)
    (subst (λ t. LineEnds (Answers (g.A.FieldRule.Answers t.now.rule.now) old.task.now) (SeesLine old.task.now (g.A.FieldRule.Answers t.now.rule.now) (g.W.FieldWatch.Saw t.now.rule.now)) [] old new a.seen b.seen a.held b.held (Err c.in-Err.halt)) makes.0 c.in-Err.ensures)

pub returns-in-Ok : goal.returns-in-Ok
returns-in-Ok g c = λ first bytes made spent makes.
    let old = c.args.self.now in
    let new = c.end_line.new.self in
    let a = moment (g.I.Streams.seen c.args.out.now.io) c.args.out.now.text c.args.steps.now in
    let b = moment (g.I.Streams.seen c.end_line.new.out.io) c.end_line.new.out.text c.end_line.new.steps in
    last_ends (g.A.FieldRule.Answers first.task.now.rule.now) (g.W.FieldWatch.Saw first.task.now.rule.now) first old new bytes made spent a b makes
    (one_last kept_length (unended bytes) old.line c.is_empty.result (kept_unended kept_length bytes old.line makes.1.line) c.is_empty.ensures.1 c.if-is_empty.false)
    (subst (λ t. EndsLine (Answers (g.A.FieldRule.Answers t.now.rule.now) old.task.now) (SeesLine old.task.now (g.A.FieldRule.Answers t.now.rule.now) (g.W.FieldWatch.Saw t.now.rule.now)) [] old new (Puts a.seen b.seen a.held b.held)) makes.0 c.in-Ok.ensures)
