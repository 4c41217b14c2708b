use Rattle.std.proofs.Common.{refl}
use Rattle.run_engine.proofs.Public.{quiet_of}
use Rattle.run_engine.specs.Seen.{moment}
use Rattle.json_lines.proofs.RunLemmas.{part_goes}
use Rattle.json_lines.specs.declared.splitter.JsonLines.{JsonLines}
use Rattle.json_lines.proofs.splitter.JsonLinesPieces.keep.Goals as goal

pub returns : goal.returns
returns g c = λ first bytes made spent makes.
    let old = c.args.self.now in
    let new : JsonLines g.row.A.Denot g.row.W.Denot = record { task = old.task; line = c.append.new.self; space = old.space; has_fault = old.has_fault; refusals = old.refusals; observer = old.observer } in
    part_goes (g.A.FieldRule.Answers first.task.now.rule.now) (g.W.FieldWatch.Saw first.task.now.rule.now) first old new bytes made spent c.args.part.now
    (moment (g.I.Streams.seen c.args._out.now.io) c.args._out.now.text c.args._steps.now) makes (quiet_of c.args.part.now c.requires.part) c.append.ensures refl refl refl refl
