use Rattle.std.proofs.Common.{◌∙◌}
use Rattle.run_engine.specs.Seen.{Breaks, Puts}
use Rattle.json_lines.proofs.RunLemmas.{ends_line, sees_line}
use Rattle.json_lines.specs.declared.splitter.JsonLines.{JsonLines}
use Rattle.json_lines.proofs.splitter.JsonLines.end_line.Goals as goal

pub returns-in-Err-put : goal.returns-in-Err-put
returns-in-Err-put g c =
    let old = c.args.self.now in
    let mid = c.note.new.self in
    let new : JsonLines g.row.A.Denot g.row.W.Denot = record { task = mid.task; line = c.clear.new.self; space = record { answer = c.append-in-Ok.new.self; reply = mid.space.reply; scratch = mid.space.scratch; json = mid.space.json }; has_fault = mid.has_fault; refusals = mid.refusals; observer = mid.observer } in
    let before : JsonLines g.row.A.Denot g.row.W.Denot = record { task = old.task; line = c.append.new.self; space = c.answer_line.new.space; has_fault = old.has_fault; refusals = old.refusals; observer = c.answer_line.new.observer } in
    let a = g.I.Streams.seen c.args.out.now.io in
    let b = g.I.Streams.seen c.put.new.self.io in
    ends_line (g.A.FieldRule.Answers old.task.now.rule.now) (g.W.FieldWatch.Saw old.task.now.rule.now) old new c.args.part.now c.as_slice.result.now c.in-Ok.ensures.made.0 c.in-Ok.refused c.answer_line.new.space.answer mid.space.answer c.append-in-Ok.new.self c.as_slice-in-Ok.result.now
    (Breaks a b c.args.out.now.text) (c.as_slice.ensures ∙ c.append.ensures) c.in-Ok.ensures.made.1 c.in-Ok.ensures.made.2 c.in-Ok.ensures.short c.note.ensures.answer c.append-in-Ok.ensures c.as_slice-in-Ok.ensures
    c.note.ensures.fault c.clear.ensures c.note.ensures.task c.in-Err-put.ensures.err c.note.ensures.lines
    (sees_line old.task.now (g.A.FieldRule.Answers old.task.now.rule.now) (g.W.FieldWatch.Saw old.task.now.rule.now) c.saturating_add-number.result c.lines.result c.as_slice.result.now c.in-Ok.refused old.observer before mid
    c.lines.ensures c.saturating_add-number.ensures c.as_slice.ensures c.in-Ok.ensures.sees c.in-Ok.ensures.reply c.in-Ok.ensures.within c.note.ensures.notes)

pub returns-in-Ok-put : goal.returns-in-Ok-put
returns-in-Ok-put g c =
    let old = c.args.self.now in
    let mid = c.note.new.self in
    let new : JsonLines g.row.A.Denot g.row.W.Denot = record { task = mid.task; line = c.clear.new.self; space = record { answer = c.append-in-Ok.new.self; reply = mid.space.reply; scratch = mid.space.scratch; json = mid.space.json }; has_fault = mid.has_fault; refusals = mid.refusals; observer = mid.observer } in
    let before : JsonLines g.row.A.Denot g.row.W.Denot = record { task = old.task; line = c.append.new.self; space = c.answer_line.new.space; has_fault = old.has_fault; refusals = old.refusals; observer = c.answer_line.new.observer } in
    let a = g.I.Streams.seen c.args.out.now.io in
    let b = g.I.Streams.seen c.put.new.self.io in
    ends_line (g.A.FieldRule.Answers old.task.now.rule.now) (g.W.FieldWatch.Saw old.task.now.rule.now) old new c.args.part.now c.as_slice.result.now c.in-Ok.ensures.made.0 c.in-Ok.refused c.answer_line.new.space.answer mid.space.answer c.append-in-Ok.new.self c.as_slice-in-Ok.result.now
    (Puts a b c.args.out.now.text c.put.new.self.text) (c.as_slice.ensures ∙ c.append.ensures) c.in-Ok.ensures.made.1 c.in-Ok.ensures.made.2 c.in-Ok.ensures.short c.note.ensures.answer c.append-in-Ok.ensures c.as_slice-in-Ok.ensures
    c.note.ensures.fault c.clear.ensures c.note.ensures.task c.in-Ok-put.ensures.ok c.note.ensures.lines
    (sees_line old.task.now (g.A.FieldRule.Answers old.task.now.rule.now) (g.W.FieldWatch.Saw old.task.now.rule.now) c.saturating_add-number.result c.lines.result c.as_slice.result.now c.in-Ok.refused old.observer before mid
    c.lines.ensures c.saturating_add-number.ensures c.as_slice.ensures c.in-Ok.ensures.sees c.in-Ok.ensures.reply c.in-Ok.ensures.within c.note.ensures.notes)
