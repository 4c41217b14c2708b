use Rattle.std.proofs.Common.{◌+◌, ◌<◌, ◌++◌, ◌||◌, ap, refl, subst, lit<, take}
use Rattle.line_engine.specs.Lines.{kept_length}
use Rattle.run_engine.specs.LineRun.{AnswersLine, EndsLine}
use Rattle.run_engine.specs.Reply.{Returns}
use Rattle.run_engine.specs.Seen.{moment}
use Rattle.run_engine.specs.declared.lines.Lines.{Lines}
use Rattle.run_engine.proofs.LineRunLemmas.{line_ended, line_kept}
use Rattle.line_engine.proofs.Public.{whole_part, part_kept}
use Rattle.run_engine.proofs.lines.Lines.end_line.Goals as goal

some : 0 < kept_length
some = lit< tt

pub returns-then-is_empty-clause-ok : goal.returns-then-is_empty-clause-ok
returns-then-is_empty-clause-ok g c = λ whole kept.
    let old = c.args.self.now in
    let next = c.next-number in
    let one = c.answer_one-is_fault in
    let new : Lines g.row.R.Denot g.row.W.Denot = record { rule = next.new.self.rule; line = next.new.self.line; watch = one.new.watch; count = next.new.self.count; has_fault = next.new.self.has_fault || one.result } in
    let a = g.I.Streams.seen c.args.out.now.io in
    let b = g.I.Streams.seen c.make_room.new.self.io in
    subst (λ l. EndsLine (g.R.Rule.Answers c.args.self.now.rule.now) (Returns (g.R.Rule.Notes c.args.self.now.rule.now) (g.R.Rule.refusal c.args.self.now.rule.now)) (g.W.Watch.Saw c.args.self.now.rule.now) (g.R.Rule.PER_BYTE + g.W.Watch.PER_BYTE) (g.R.Rule.EXTRA + g.W.Watch.EXTRA) l old new (moment a c.args.out.now.text c.args.steps.now) (moment b c.push.new.self one.new.steps))
    (whole_part kept_length whole old.line c.args.part.now some kept (c.is_empty.ensures.0 c.if-is_empty.true))
    (line_ended (g.R.Rule.Answers c.args.self.now.rule.now) (Returns (g.R.Rule.Notes c.args.self.now.rule.now) (g.R.Rule.refusal c.args.self.now.rule.now)) (g.W.Watch.Saw c.args.self.now.rule.now) (g.R.Rule.PER_BYTE + g.W.Watch.PER_BYTE) (g.R.Rule.EXTRA + g.W.Watch.EXTRA) c.args.part.now old new a b c.args.out.now.text c.make_room.new.self.text one.new.out c.push.new.self c.args.steps.now one.new.steps one.result
    next.result next.new.self.watch next.ensures.number next.ensures.watch c.in_ok-make_room.ensures.ok
    (subst (λ r. AnswersLine (g.R.Rule.Answers r.now) (Returns (g.R.Rule.Notes r.now) (g.R.Rule.refusal r.now)) (g.W.Watch.Saw r.now) c.args.part.now next.result next.new.self.watch one.new.watch c.make_room.new.self.text one.new.out one.result) next.ensures.rule one.ensures.answers)
    c.push.ensures next.ensures.count (ap (λ f. f || one.result) next.ensures.fault) next.ensures.rule one.ensures.cost)

pub returns-clause-ok : goal.returns-clause-ok
returns-clause-ok g c = λ whole kept.
    let old = c.args.self.now in
    let new = c.end_long_line.new.self in
    let ends = c.end_long_line.ensures in
    let a = g.I.Streams.seen c.args.out.now.io in
    let b = g.I.Streams.seen c.make_room.new.self.io in
    let line = take kept_length (old.line ++ c.args.part.now) in
    line_kept (g.R.Rule.Answers c.args.self.now.rule.now) (Returns (g.R.Rule.Notes c.args.self.now.rule.now) (g.R.Rule.refusal c.args.self.now.rule.now)) (g.W.Watch.Saw c.args.self.now.rule.now) (g.R.Rule.PER_BYTE + g.W.Watch.PER_BYTE) (g.R.Rule.EXTRA + g.W.Watch.EXTRA) (whole ++ c.args.part.now) old new (moment a c.args.out.now.text c.args.steps.now) (moment b c.end_long_line.new.out c.end_long_line.new.steps)
    (g.met.R.LineRule.kept_law c.args.self.now.rule.now)
    (subst (λ l. EndsLine (g.R.Rule.Answers c.args.self.now.rule.now) (Returns (g.R.Rule.Notes c.args.self.now.rule.now) (g.R.Rule.refusal c.args.self.now.rule.now)) (g.W.Watch.Saw c.args.self.now.rule.now) (g.R.Rule.PER_BYTE + g.W.Watch.PER_BYTE) (g.R.Rule.EXTRA + g.W.Watch.EXTRA) l old new (moment a c.args.out.now.text c.args.steps.now) (moment b c.end_long_line.new.out c.end_long_line.new.steps))
    (part_kept kept_length whole old.line c.args.part.now line line kept refl refl)
    (line_ended (g.R.Rule.Answers c.args.self.now.rule.now) (Returns (g.R.Rule.Notes c.args.self.now.rule.now) (g.R.Rule.refusal c.args.self.now.rule.now)) (g.W.Watch.Saw c.args.self.now.rule.now) (g.R.Rule.PER_BYTE + g.W.Watch.PER_BYTE) (g.R.Rule.EXTRA + g.W.Watch.EXTRA) line old new a b c.args.out.now.text c.make_room.new.self.text ends.ended.1 c.end_long_line.new.out c.args.steps.now c.end_long_line.new.steps ends.ended.0
    _ old.watch refl refl c.in_ok-make_room.ensures.ok ends.ended.3 ends.ended.4 ends.count ends.ended.2 ends.rule ends.cost))
