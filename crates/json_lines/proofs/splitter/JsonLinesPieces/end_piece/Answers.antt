use Rattle.std.proofs.Common.{subst}
use Rattle.line_engine.proofs.Public.{ten}
use Rattle.run_engine.proofs.Public.{quiet_of}
use Rattle.run_engine.specs.Seen.{moment}
use Rattle.json_lines.proofs.RunLemmas.{feeds_line}
use Rattle.json_lines.specs.Inner.Progress.{LineEnds}
use Rattle.json_lines.specs.Run.{Answers}
use Rattle.json_lines.specs.Told.{SeesLine}
use Rattle.json_lines.proofs.splitter.JsonLinesPieces.end_piece.Goals as goal

pub returns : goal.returns
returns g c = λ first bytes made spent makes.
    let old = c.args.self.now in
    let new = c.end_line.new.self in
    let a = moment (g.I.Streams.seen c.args.out.now.io) c.args.out.now.text c.args.steps.now in
    let b = moment (g.I.Streams.seen c.end_line.new.out.io) c.end_line.new.out.text c.end_line.new.steps in
    feeds_line (g.A.FieldRule.Answers first.task.now.rule.now) (g.W.FieldWatch.Saw first.task.now.rule.now) first old new bytes made spent c.args.part.now c.args._byte a b c.end_line.result makes (quiet_of c.args.part.now c.requires.part) (ten c.args._byte c.requires.byte)
    (subst (λ t. LineEnds (Answers (g.A.FieldRule.Answers t.now.rule.now) old.task.now) (SeesLine old.task.now (g.A.FieldRule.Answers t.now.rule.now) (g.W.FieldWatch.Saw t.now.rule.now)) c.args.part.now old new a.seen b.seen a.held b.held c.end_line.result) makes.0 c.end_line.ensures)
