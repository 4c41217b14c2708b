use Rattle.std.proofs.Common.{◌∙◌}
use Rattle.json_lines.proofs.RunLemmas.{notes_line, tells_line}
use Rattle.json_lines.specs.declared.splitter.JsonLines.{JsonLines}
use Rattle.json_lines.proofs.splitter.JsonLines.note.Goals as goal

pub returns-in-Line-clause-notes : goal.returns-in-Line-clause-notes
returns-in-Line-clause-notes g c =
    let old = c.args.self.now in
    let Saw = g.W.FieldWatch.Saw old.task.now.rule.now in
    let stop = c.stop_of-stop.result in
    let new : JsonLines g.row.A.Denot g.row.W.Denot = c.tell.new.self in
    notes_line Saw c.args.refused stop old new c.note.new.self c.as_slice-line.result.now c.as_bytes.result.now c.stop_of-stop.ensures
    (tells_line Saw c.args.refused c.in-Line.fault old.refusals.lines c.lines-number.result stop old.line old.observer c.tell.new.self.observer c.in-Line.is (c.lines-number.ensures ∙ c.note.ensures.lines) c.tell.ensures.saw)
    c.tell.ensures.refusals c.note.ensures.count c.as_slice-line.ensures c.as_bytes.ensures.value c.note.ensures.first
