use Rattle.std.proofs.Common.{◌+◌, ◌++◌, ◌∷◌, [], refl, subst, sym}
use Rattle.run_engine.specs.LineRun.{EndsLine, MakesLines}
use Rattle.run_engine.specs.Machines.{Goes, going}
use Rattle.run_engine.specs.Reply.{Returns}
use Rattle.run_engine.specs.Seen.{moment}
use Rattle.line_engine.proofs.Public.{ten}
use Rattle.run_engine.proofs.LineRunLemmas.{line_goes}
use Rattle.run_engine.proofs.MachineLemmas.{goes_breaks, goes_none}
use Rattle.run_engine.proofs.PieceLemmas.{quiet_of}
use Rattle.run_engine.proofs.lines.LinesPieces.end_piece.Goals as goal

pub returns-in-Err : goal.returns-in-Err
returns-in-Err g c = λ first bytes made spent makes.
    let Makes = MakesLines (g.R.Rule.Answers first.rule.now) (Returns (g.R.Rule.Notes first.rule.now) (g.R.Rule.refusal first.rule.now)) (g.W.Watch.Saw first.rule.now) (g.R.Rule.PER_BYTE + g.W.Watch.PER_BYTE) (g.R.Rule.EXTRA + g.W.Watch.EXTRA) first in
    let a = moment (g.I.Streams.seen c.args.out.now.io) c.args.out.now.text c.args.steps.now in
    let d = moment (g.I.Streams.seen c.end_line.new.out.io) c.end_line.new.out.text c.end_line.new.steps in
    let next = c.args.part.now ++ c.args._byte ∷ [] in
    goes_breaks Makes bytes made spent [] next next c.end_line.new.self a a d refl
    (subst (λ m. Goes Makes bytes made spent [] going m a a) (sym c.in-Err.ensures.same.0) (goes_none Makes bytes made spent c.args.self.now a makes))
    c.in-Err.ensures.err c.in-Err.ensures.same.1

pub returns-in-Ok : goal.returns-in-Ok
returns-in-Ok g c = λ first bytes made spent makes.
    let Makes = MakesLines (g.R.Rule.Answers first.rule.now) (Returns (g.R.Rule.Notes first.rule.now) (g.R.Rule.refusal first.rule.now)) (g.W.Watch.Saw first.rule.now) (g.R.Rule.PER_BYTE + g.W.Watch.PER_BYTE) (g.R.Rule.EXTRA + g.W.Watch.EXTRA) first in
    let old = c.args.self.now in
    let new = c.end_line.new.self in
    let a = moment (g.I.Streams.seen c.args.out.now.io) c.args.out.now.text c.args.steps.now in
    let d = moment (g.I.Streams.seen c.end_line.new.out.io) c.end_line.new.out.text c.end_line.new.steps in
    subst (λ n. Goes Makes bytes made spent (c.args.part.now ++ n ∷ []) going new a d) (sym (ten c.args._byte c.requires.byte))
    (line_goes (g.R.Rule.Answers first.rule.now) (Returns (g.R.Rule.Notes first.rule.now) (g.R.Rule.refusal first.rule.now)) (g.W.Watch.Saw first.rule.now) (g.R.Rule.PER_BYTE + g.W.Watch.PER_BYTE) (g.R.Rule.EXTRA + g.W.Watch.EXTRA) first old new bytes made spent c.args.part.now a d makes (quiet_of c.args.part.now c.requires.part)
    (λ whole kept. subst (λ r. EndsLine (g.R.Rule.Answers r.now) (Returns (g.R.Rule.Notes r.now) (g.R.Rule.refusal r.now)) (g.W.Watch.Saw r.now) (g.R.Rule.PER_BYTE + g.W.Watch.PER_BYTE) (g.R.Rule.EXTRA + g.W.Watch.EXTRA) (whole ++ c.args.part.now) old new a d) makes.made.same (c.in-Ok.ensures.ok whole kept))
    c.in-Ok.ensures.line)
